-- The places that places name and reach.
use Rattle.std.specs.Prelude.{ℕ, zero, suc, ◌<◌, ◌≡◌, List, [], ◌∷◌, ◌++◌, map, Vec, unwrap_or, slice_get, Some, Bool, false, ◌==◌, if◌then◌else◌, All}
use Rattle.std.specs.Global.{Global}
use Rattle.std.specs.List.{flat_map, list_any}

-- for each place the places that it names, in order
abbrev pub Links : Type 0
Links = List (List ℕ)

-- the lists that vectors hold
abbrev pub lists : {A : Type 0} → List (Vec A Global) → List (List A)
lists vs = map (λ v. v.items) vs

-- the places that a place names
abbrev pub linked : Links → ℕ → List ℕ
linked ls k = unwrap_or (slice_get ls k) []

-- each place names only earlier places
abbrev pub AreEarlier : Links → Type 0
AreEarlier ls = (k : ℕ) → All (λ x. x < k) (linked ls k)

-- the places that a place reaches, in order and with repeats, and last the place itself; n is greater than the place
abbrev pub reach : ℕ → Links → ℕ → List ℕ
reach zero ls k = []
reach (suc n) ls k = flat_map (reach n ls) (linked ls k) ++ k ∷ []

-- the places that a place reaches
unfoldable pub trail : Links → ℕ → List ℕ
trail ls k = reach (suc k) ls k

-- a place is in a list
abbrev pub has : List ℕ → ℕ → Bool
has o x = list_any (λ y. y == x) o

-- o, and then the first occurrences of the elements of xs that are not in o
abbrev pub added : List ℕ → List ℕ → List ℕ
added o [] = o
added o (x ∷ xs) = added (if has o x then o else o ++ x ∷ []) xs

-- the places that some places reach, each once
abbrev pub started : Links → List ℕ → List ℕ
started ls roots = added [] (flat_map (trail ls) roots)

-- each element, by cases on the list
abbrev pub Each : (ℕ → Type 0) → List ℕ → Type 0
Each P [] = Unit {0}
Each P (x ∷ xs) = P x × Each P xs

-- whether a place is marked
abbrev pub is_marked : List Bool → ℕ → Bool
is_marked fs k = unwrap_or (slice_get fs k) false

-- the marks are those of the places of a list
abbrev pub AreMarks : List Bool → List ℕ → Type 0
AreMarks fs o = (k : ℕ) → is_marked fs k ≡ has o k

-- whether a place is, or reaches, a marked one
abbrev pub reaches : Links → List Bool → ℕ → Bool
reaches ls fs k = list_any (is_marked fs) (trail ls k)

-- each element, by its place
abbrev pub AtEach : {A : Type 0} → (A → Type 0) → List A → Type 0
AtEach {A} P xs = (k : ℕ) (x : A) → slice_get xs k ≡ Some x → P x
