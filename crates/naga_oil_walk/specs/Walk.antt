-- The order in which the expressions of a function are copied.
use Rattle.std.specs.Prelude.{ℕ, ◌≡◌, ◌<◌, ◌≤◌, true, false, not, List, [], ◌∷◌, ◌++◌, take, length, slice_get, slice_set, Option, Some, is_none, nat_lt, ◌+◌, ◌||◌, if◌then◌else◌}
use Rattle.std.specs.Option.{option_flatten}
use Rattle.std.specs.List.{filter, flat_map}
use Rattle.naga_oil_form.specs.Links.{Links, linked, has, added, trail, started}
use Rattle.naga_oil_ir.specs.Body.{Tokens}
use Rattle.naga_oil_form.specs.BodyForm.{is_external, places}
use Rattle.naga_oil_ir.specs.declared.tokens.Token.{Token}
use Rattle.naga_oil_ir.specs.declared.tokens.Token.TheVariants.{Use, Give, GiveCall, Emitted}

-- the external places of a list, where ks are the kinds
abbrev pub externals : List ℕ → List ℕ → List ℕ
externals ks xs = filter (is_external ks) xs

-- the places of a list that are not in s
abbrev pub others : List ℕ → List ℕ → List ℕ
others s xs = filter (λ x. not (has s x)) xs

-- the places that a part of a body lists: for an operand or a result all places that it reaches; for an emitted range first
-- the external places that it reaches, then the range
abbrev pub listed : List ℕ → Links → Token → List ℕ
listed ks ls (Use h) = trail ls h
listed ks ls (Give h) = trail ls h
listed ks ls (GiveCall f h) = trail ls h
listed ks ls (Emitted r) = externals ks (flat_map (trail ls) (places r)) ++ places r
listed ks ls _ = []

-- the places of a function in the order of first reach: those that the initialisers is reach, then those that its body lists
abbrev pub walked : List ℕ → Links → List ℕ → Tokens → List ℕ
walked ks ls is ts = added (started ls is) (flat_map (listed ks ls) ts)

-- ---- the order for a body that passes the test of form

-- the places that a part of a body lists, if the operands of these places are known
abbrev pub brief : List ℕ → Links → Token → List ℕ
brief ks ls (Use h) = h ∷ []
brief ks ls (Give h) = h ∷ []
brief ks ls (GiveCall f h) = h ∷ []
brief ks ls (Emitted r) = externals ks (flat_map (linked ls) (places r)) ++ places r
brief ks ls _ = []

-- the places that a part of a body lists are less than n
abbrev pub IsWithin : ℕ → Token → Type 0
IsWithin n (Use h) = h < n
IsWithin n (Give h) = h < n
IsWithin n (GiveCall f h) = h < n
IsWithin n (Emitted r) = (r.0 ≤ r.1) × (r.1 ≤ n)
IsWithin n _ = Unit {0}

-- each place occurs once, after the places that it names
pub record IsReachOrder (ls : Links) (o : List ℕ) : Type 0 where
  pub once : (i k : ℕ) → slice_get o i ≡ Some k → has (take i o) k ≡ false
  pub after : (i k x : ℕ) → slice_get o i ≡ Some k → has (linked ls k) x ≡ true → has (take i o) x ≡ true

-- all places of a list are in o
abbrev pub Holds : List ℕ → List ℕ → Type 0
Holds o xs = (x : ℕ) → has xs x ≡ true → has o x ≡ true

-- ---- positions of emitted ranges in the order, indexed by their first places

abbrev pub Notes : Type 0
Notes = List (Option (ℕ × ℕ))

-- the notes with the begin and the end of one more range; of the ranges that begin at a place the nonempty one counts, else the
-- first
abbrev pub noted : Notes → ℕ × ℕ → ℕ × ℕ → Notes
noted es r p = if nat_lt r.0 r.1 || is_none (option_flatten (slice_get es r.0)) then slice_set es r.0 (Some p) else es

-- the notes after a part of a body, where o is the order before it
abbrev pub notes_of : List ℕ → Links → List ℕ → Notes → Token → Notes
notes_of ks ls o es (Emitted r) =
    let mid = added o (externals ks (flat_map (linked ls) (places r))) in
    noted es r (length mid, length (added mid (places r)))
notes_of ks ls o es _ = es

-- the notes after the parts of a body
abbrev pub notes_after : List ℕ → Links → List ℕ → Notes → Tokens → Notes
notes_after ks ls o es [] = es
notes_after ks ls o es (t ∷ ts) = notes_after ks ls (added o (brief ks ls t)) (notes_of ks ls o es t) ts

-- xs is the part of o from b up to e
pub record StandsFrom (o : List ℕ) (b e : ℕ) (xs : List ℕ) : Type 0 where
  pub before : List ℕ
  pub following : List ℕ
  pub is : o ≡ (before ++ xs) ++ following
  pub begins : length before ≡ b
  pub ends : e ≡ b + length xs

-- the notes give where the places of an emitted range that are not in s stand in the order o, one after the other
abbrev pub IsNoted : List ℕ → List ℕ → Notes → Token → Type 0
IsNoted s o es (Emitted r) = r.0 < r.1 → (b : ℕ) × (e : ℕ) × (slice_get es r.0 ≡ Some (Some (b, e))) × StandsFrom o b e (others s (places r))
IsNoted s o es _ = Unit {0}

abbrev pub AreNoted : List ℕ → List ℕ → Notes → Tokens → Type 0
AreNoted s o es [] = Unit {0}
AreNoted s o es (t ∷ ts) = IsNoted s o es t × AreNoted s o es ts

-- the noted positions lie after the first n places of the order
abbrev pub AreWithin : ℕ → List ℕ → Notes → Type 0
AreWithin n o es = (k b e : ℕ) → slice_get es k ≡ Some (Some (b, e)) → (n ≤ b) × (b ≤ e) × (e ≤ length o)
