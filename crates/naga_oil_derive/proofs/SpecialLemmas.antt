use Rattle.std.proofs.Common.{◌≡◌, ◌⊎◌, inl, inr, ⊎_elim, ℕ, ◌<◌, ◌+◌, Bool, true, false, cond, nat_eq, List, [], ◌∷◌, ◌++◌, map, length, take, get_or, Option, Some, None, slice_get, slice_set, is_some, ◌==◌, if◌then◌else◌, refl, ap, sym, ◌∙◌, subst, All}
use Rattle.std.specs.List.{AllByRecursion, IsDistinct}
use Rattle.std.specs.Option.{option_flatten}
use Rattle.std.specs.Map.{lookup}
use Rattle.std.proofs.lemmas.Bool.{false≢true}
use Rattle.std.proofs.lemmas.List.{append_assoc, length-set, take_more}
use Rattle.std.proofs.lemmas.List.Elements.{All-head, All-tail}
use Rattle.std.proofs.lemmas.Map.Keys.{IsDistinct-head, IsDistinct-tail}
use Rattle.indexmap.specs.IndexMap.{insert_entry}
use Rattle.naga_oil_ir.specs.ModuleValue.{SpecialValue}
use Rattle.naga_oil_form.proofs.LinkLemmas.{eqb_eq, eq_eqb, slice_get-set_same, slice_get-set_other}
use Rattle.naga_oil_derive.specs.declared.special.SpecialKey.{SpecialKey}
use Rattle.naga_oil_derive.specs.declared.special.SpecialKey.TheVariants.{RayDesc, RayIntersection, RayVertexReturn, Predeclared}
use Rattle.naga_oil_derive.specs.World.{special_entry, special_entries, special_at, or_option, kept_in, LacksKey, HaveDistinctKeys, with_special, with_specials}
use Rattle.naga_oil_derive.specs.Copying.{put_kept, kept_over}

-- a special type with its key
abbrev pub Entry : Type 0
Entry = SpecialKey × ℕ

-- ---- the entries have distinct keys

lacks_append : (k : SpecialKey) (xs ys : List Entry) → LacksKey k xs → LacksKey k ys → LacksKey k (xs ++ ys)
lacks_append k [] ys a b = b
lacks_append k (x ∷ xs) ys a b = (a.0, lacks_append k xs ys a.1 b)

lacks_entry : (k key : SpecialKey) (o : Option ℕ) → (key ≡ k → ⊥) → LacksKey k (special_entry key o)
lacks_entry k key None d = tt
lacks_entry k key (Some h) d = (d, tt)

-- the entries of predeclared types
abbrev pub coded : List (ℕ × ℕ) → List Entry
coded es = map (λ e. (Predeclared e.0, e.1)) es

lacks_coded : (k : SpecialKey) → ((c : ℕ) → Predeclared c ≡ k → ⊥) → (es : List (ℕ × ℕ)) → LacksKey k (coded es)
lacks_coded k d [] = tt
lacks_coded k d (e ∷ es) = (d e.0, lacks_coded k d es)

code_of : (a b : ℕ) → Predeclared a ≡ Predeclared b → a ≡ b
code_of a b e = cc

lacks_code : (c : ℕ) (es : List (ℕ × ℕ)) → AllByRecursion (λ y. nat_eq c y ≡ false) (map (λ e. e.0) es) → LacksKey (Predeclared c) (coded es)
lacks_code c [] a = tt
lacks_code c (e ∷ es) a = ((λ h. false≢true (sym a.0 ∙ eq_eqb c e.0 (sym (code_of e.0 c h)))), lacks_code c es a.1)

coded_distinct : (es : List (ℕ × ℕ)) → IsDistinct nat_eq (map (λ e. e.0) es) → HaveDistinctKeys (coded es)
coded_distinct [] d = tt
coded_distinct (e ∷ es) d = (lacks_code e.0 es (IsDistinct-head nat_eq e.0 (map (λ e. e.0) es) d), coded_distinct es (IsDistinct-tail nat_eq e.0 (map (λ e. e.0) es) d))

entry_distinct : (key : SpecialKey) (o : Option ℕ) (es : List Entry) → LacksKey key es → HaveDistinctKeys es → HaveDistinctKeys (special_entry key o ++ es)
entry_distinct key None es l d = d
entry_distinct key (Some h) es l d = (l, d)

-- the entries, put together from the right
pub entries_nested : (s : SpecialValue) → special_entries s ≡ special_entry RayDesc s.ray_desc ++ (special_entry RayIntersection s.ray_intersection ++ (special_entry RayVertexReturn s.ray_vertex_return ++ coded s.predeclared_types))
entries_nested s =
    let x = special_entry RayDesc s.ray_desc in
    let y = special_entry RayIntersection s.ray_intersection in
    let z = special_entry RayVertexReturn s.ray_vertex_return in
    let cs = coded s.predeclared_types in
    append_assoc (x ++ y) z cs ∙ append_assoc x y (z ++ cs)

pub entries_distinct : (s : SpecialValue) → IsDistinct nat_eq (map (λ e. e.0) s.predeclared_types) → HaveDistinctKeys (special_entries s)
entries_distinct s d =
    let cs = coded s.predeclared_types in
    let last = special_entry RayVertexReturn s.ray_vertex_return ++ cs in
    let middle = special_entry RayIntersection s.ray_intersection ++ last in
    subst HaveDistinctKeys (sym (entries_nested s)) (entry_distinct RayDesc s.ray_desc middle (lacks_append RayDesc (special_entry RayIntersection s.ray_intersection) last (lacks_entry RayDesc RayIntersection s.ray_intersection (λ e. cc)) (lacks_append RayDesc (special_entry RayVertexReturn s.ray_vertex_return) cs (lacks_entry RayDesc RayVertexReturn s.ray_vertex_return (λ e. cc)) (lacks_coded RayDesc (λ c e. cc) s.predeclared_types))) (entry_distinct RayIntersection s.ray_intersection last (lacks_append RayIntersection (special_entry RayVertexReturn s.ray_vertex_return) cs (lacks_entry RayIntersection RayVertexReturn s.ray_vertex_return (λ e. cc)) (lacks_coded RayIntersection (λ c e. cc) s.predeclared_types)) (entry_distinct RayVertexReturn s.ray_vertex_return cs (lacks_coded RayVertexReturn (λ c e. cc) s.predeclared_types) (coded_distinct s.predeclared_types d))))

-- ---- one key

insert_step : (eq : ℕ → ℕ → Bool) (x : ℕ × ℕ) (es : List (ℕ × ℕ)) (c h : ℕ) → ((e : lookup (eq c) es ≡ None) → insert_entry eq es c h ≡ es ++ (c, h) ∷ []) → (b : Bool) → eq c x.0 ≡ b → cond b (Some x.1) (lookup (eq c) es) ≡ None → cond b ((x.0, h) ∷ es) (x ∷ insert_entry eq es c h) ≡ x ∷ (es ++ (c, h) ∷ [])
insert_step eq x es c h ih true e n = let g : Some x.1 ≡ None = n in cc
insert_step eq x es c h ih false e n = ap (λ ys. x ∷ ys) (ih n)

pub insert_absent : (eq : ℕ → ℕ → Bool) (es : List (ℕ × ℕ)) (c h : ℕ) → lookup (eq c) es ≡ None → insert_entry eq es c h ≡ es ++ (c, h) ∷ []
insert_absent eq [] c h e = refl
insert_absent eq (x ∷ es) c h e =
    insert_step eq x es c h (insert_absent eq es c h) (eq c x.0) refl e

lookup_step : (x : ℕ) (a b r : Option ℕ) (t : Bool) → a ≡ or_option b r → cond t (Some x) a ≡ or_option (cond t (Some x) b) r
lookup_step x a b r true h = refl
lookup_step x a b r false h = h

lookup_append : (c : ℕ) (es : List (ℕ × ℕ)) (d h : ℕ) → lookup (nat_eq c) (es ++ (d, h) ∷ []) ≡ or_option (lookup (nat_eq c) es) (if nat_eq c d then Some h else None)
lookup_append c [] d h = refl
lookup_append c (x ∷ es) d h = lookup_step x.1 (lookup (nat_eq c) (es ++ (d, h) ∷ [])) (lookup (nat_eq c) es) (if nat_eq c d then Some h else None) (nat_eq c x.0) (lookup_append c es d h)

-- what is set is there
pub special_set : (s : SpecialValue) (key : SpecialKey) (h : ℕ) → special_at s key ≡ None → special_at (with_special s key h) key ≡ Some h
special_set s RayDesc h e = refl
special_set s RayIntersection h e = refl
special_set s RayVertexReturn h e = refl
special_set s (Predeclared c) h e = lookup_append c s.predeclared_types c h ∙ ap (λ o. or_option o (if nat_eq c c then Some h else None)) e ∙ ap (λ b. if b then Some h else None) (eq_eqb c c refl)

none_or : (o : Option ℕ) → or_option o None ≡ o
none_or None = refl
none_or (Some x) = refl

other_code : (c d h : ℕ) (o : Option ℕ) → (c ≡ d → ⊥) → (b : Bool) → nat_eq c d ≡ b → or_option o (if b then Some h else None) ≡ o
other_code c d h o n true e = absurd (n (eqb_eq c d e))
other_code c d h o n false e = none_or o

-- and the others stay
pub special_others : (s : SpecialValue) (key other : SpecialKey) (h : ℕ) → (other ≡ key → ⊥) → special_at (with_special s key h) other ≡ special_at s other
special_others s RayDesc RayDesc h d = absurd (d refl)
special_others s RayDesc RayIntersection h d = refl
special_others s RayDesc RayVertexReturn h d = refl
special_others s RayDesc (Predeclared c) h d = refl
special_others s RayIntersection RayDesc h d = refl
special_others s RayIntersection RayIntersection h d = absurd (d refl)
special_others s RayIntersection RayVertexReturn h d = refl
special_others s RayIntersection (Predeclared c) h d = refl
special_others s RayVertexReturn RayDesc h d = refl
special_others s RayVertexReturn RayIntersection h d = refl
special_others s RayVertexReturn RayVertexReturn h d = absurd (d refl)
special_others s RayVertexReturn (Predeclared c) h d = refl
special_others s (Predeclared k) RayDesc h d = refl
special_others s (Predeclared k) RayIntersection h d = refl
special_others s (Predeclared k) RayVertexReturn h d = refl
special_others s (Predeclared k) (Predeclared c) h d = lookup_append c s.predeclared_types k h ∙ other_code c k h (lookup (nat_eq c) s.predeclared_types) (λ e. d (ap Predeclared e)) (nat_eq c k) refl

some_none : (o : Option ℕ) (q : ℕ) → o ≡ Some q → o ≡ None → ⊥
some_none o q e f = let g : Some q ≡ None = sym e ∙ f in cc

-- types that are there stay, while keys that lack one get one
pub special_keeps : (s : SpecialValue) (key other : SpecialKey) (h q : ℕ) → special_at s key ≡ None → special_at s other ≡ Some q → special_at (with_special s key h) other ≡ Some q
special_keeps s key other h q e f = special_others s key other h (λ g. some_none (special_at s other) q f (ap (special_at s) g ∙ e)) ∙ f

-- ---- all keys

-- special types with one entry more, if they lack its key
abbrev pub more : SpecialValue → (ℕ → ℕ) → Entry → SpecialValue
more s f e = if is_some (special_at s e.0) then s else with_special s e.0 (f e.1)

pub more_case : (s : SpecialValue) (f : ℕ → ℕ) (e : Entry) (P : SpecialValue → Type 0) → ((q : ℕ) → special_at s e.0 ≡ Some q → P s) → (special_at s e.0 ≡ None → P (with_special s e.0 (f e.1))) → (o : Option ℕ) → special_at s e.0 ≡ o → P (more s f e)
more_case s f e P a b None h = subst (λ o. P (if is_some o then s else with_special s e.0 (f e.1))) (sym h) (b h)
more_case s f e P a b (Some q) h = subst (λ o. P (if is_some o then s else with_special s e.0 (f e.1))) (sym h) (a q h)

more_keeps : (s : SpecialValue) (f : ℕ → ℕ) (e : Entry) (k : SpecialKey) (q : ℕ) → special_at s k ≡ Some q → special_at (more s f e) k ≡ Some q
more_keeps s f e k q h = more_case s f e (λ t. special_at t k ≡ Some q) (λ x g. h) (λ g. special_keeps s e.0 k (f e.1) q g h) (special_at s e.0) refl

-- what was there stays
pub specials_keep : (s : SpecialValue) (f : ℕ → ℕ) (es : List Entry) (k : SpecialKey) (q : ℕ) → special_at s k ≡ Some q → special_at (with_specials s f es) k ≡ Some q
specials_keep s f [] k q h = h
specials_keep s f (e ∷ es) k q h = specials_keep (more s f e) f es k q (more_keeps s f e k q h)

-- a key has the type that it had, or what its entry's type maps to
abbrev pub IsSettled : SpecialValue → SpecialValue → (ℕ → ℕ) → Entry → Type 0
IsSettled s t f e = (special_at t e.0 ≡ Some (f e.1)) ⊎ ((q : ℕ) × (special_at s e.0 ≡ Some q) × (special_at t e.0 ≡ Some q))

-- each entry
abbrev pub EachEntry : (Entry → Type 0) → List Entry → Type 0
EachEntry P [] = Unit {0}
EachEntry P (e ∷ es) = P e × EachEntry P es

each_weaker : (P Q : Entry → Type 0) (key : SpecialKey) → ((e : Entry) → (e.0 ≡ key → ⊥) → P e → Q e) → (es : List Entry) → LacksKey key es → EachEntry P es → EachEntry Q es
each_weaker P Q key f [] l a = tt
each_weaker P Q key f (e ∷ es) l a = (f e l.0 a.0, each_weaker P Q key f es l.1 a.1)

more_others : (s : SpecialValue) (f : ℕ → ℕ) (e : Entry) (k : SpecialKey) → (k ≡ e.0 → ⊥) → special_at (more s f e) k ≡ special_at s k
more_others s f e k d = more_case s f e (λ t. special_at t k ≡ special_at s k) (λ q h. refl) (λ h. special_others s e.0 k (f e.1) d) (special_at s e.0) refl

settled_here : (s : SpecialValue) (f : ℕ → ℕ) (e : Entry) (es : List Entry) (o : Option ℕ) → special_at s e.0 ≡ o → IsSettled s (with_specials (more s f e) f es) f e
settled_here s f e es (Some q) h = inr (q, h, specials_keep (more s f e) f es e.0 q (more_keeps s f e e.0 q h))
settled_here s f e es None h = inl (specials_keep (more s f e) f es e.0 (f e.1) (more_case s f e (λ t. special_at t e.0 ≡ Some (f e.1)) (λ q g. absurd (some_none (special_at s e.0) q g h)) (λ g. special_set s e.0 (f e.1) g) (special_at s e.0) refl))

-- once all are set, each key of a source is settled
pub settled : (s : SpecialValue) (f : ℕ → ℕ) (es : List Entry) → HaveDistinctKeys es → EachEntry (IsSettled s (with_specials s f es) f) es
settled s f [] d = tt
settled s f (e ∷ es) d =
    (settled_here s f e es (special_at s e.0) refl, each_weaker (IsSettled (more s f e) (with_specials (more s f e) f es) f) (IsSettled s (with_specials (more s f e) f es) f) e.0 (λ x n w. ⊎_elim inl (λ o. inr (o.0, sym (more_others s f e x.0 n) ∙ o.1, o.2)) w) es d.0 (settled (more s f e) f es d.1))

-- ---- the last kept key of a type

or_some : (a b : Option ℕ) (q : ℕ) → or_option a b ≡ Some q → (a ≡ Some q) ⊎ ((a ≡ None) × (b ≡ Some q))
or_some None b q e = inr (refl, e)
or_some (Some a) b q e = inl e

pub or_none : (a b : Option ℕ) → or_option a b ≡ None → (a ≡ None) × (b ≡ None)
or_none None b e = (refl, e)
or_none (Some a) b e = absurd (some_none (Some a) a refl e)

key_more : (f g : SpecialKey → Option ℕ) → ((k : SpecialKey) (q : ℕ) → f k ≡ Some q → (x : ℕ) × (g k ≡ Some x)) → (k : SpecialKey) (b : Bool) (o : Option ℕ) → f k ≡ o → (if b then g k else None) ≡ None → (if b then f k else None) ≡ None
key_more f g m k false o e h = refl
key_more f g m k true None e h = e
key_more f g m k true (Some q) e h = let w = m k q e in absurd (some_none (g k) w.0 w.1 h)

-- a key that is kept by some is kept by more
kept_more : (f g : SpecialKey → Option ℕ) → ((k : SpecialKey) (q : ℕ) → f k ≡ Some q → (x : ℕ) × (g k ≡ Some x)) → (es : List Entry) (h : ℕ) → kept_in g es h ≡ None → kept_in f es h ≡ None
kept_more f g m [] h e = refl
kept_more f g m (x ∷ es) h e =
    let w = or_none (kept_in g es h) (if x.1 == h then g x.0 else None) e in
    ap (λ o. or_option o (if x.1 == h then f x.0 else None)) (kept_more f g m es h w.0) ∙ key_more f g m x.0 (x.1 == h) (f x.0) refl w.1

pub kept_none_more : (s t : SpecialValue) → ((k : SpecialKey) (q : ℕ) → special_at s k ≡ Some q → special_at t k ≡ Some q) → (es : List Entry) (h : ℕ) → kept_in (special_at t) es h ≡ None → kept_in (special_at s) es h ≡ None
kept_none_more s t keeps es h e = kept_more (special_at s) (special_at t) (λ k q i. (q, keeps k q i)) es h e

Some_inj : (a b : ℕ) → Some a ≡ Some b → a ≡ b
Some_inj a b e = cc

here_settled : (s t : SpecialValue) (f : ℕ → ℕ) (x : Entry) (es : List Entry) → ((k : SpecialKey) (q : ℕ) → special_at s k ≡ Some q → special_at t k ≡ Some q) → IsSettled s t f x → ((h q : ℕ) → kept_in (special_at s) (x ∷ es) h ≡ Some q → f h ≡ q) → (h q : ℕ) → kept_in (special_at t) es h ≡ None → (b : Bool) → (x.1 == h) ≡ b → (if b then special_at t x.0 else None) ≡ Some q → f h ≡ q
here_settled s t f x es keeps a stand h q n false e g = let c : None ≡ Some q = g in cc
here_settled s t f x es keeps a stand h q n true e g =
    let is : x.1 ≡ h = eqb_eq x.1 h e in
    ⊎_elim (λ w. ap f (sym is) ∙ Some_inj (f x.1) q (sym w ∙ g)) (λ w. let r : w.0 ≡ q = Some_inj w.0 q (sym w.2 ∙ g) in stand h q (ap (λ o. or_option o (if x.1 == h then special_at s x.0 else None)) (kept_none_more s t keeps es h n) ∙ ap (λ c. if c then special_at s x.0 else None) e ∙ w.1 ∙ ap Some r)) a

-- if each key is settled, the kept place of a type is what the type maps to
pub kept_settled : (s t : SpecialValue) (f : ℕ → ℕ) (es : List Entry) → ((k : SpecialKey) (q : ℕ) → special_at s k ≡ Some q → special_at t k ≡ Some q) → EachEntry (IsSettled s t f) es → ((h q : ℕ) → kept_in (special_at s) es h ≡ Some q → f h ≡ q) → (h q : ℕ) → kept_in (special_at t) es h ≡ Some q → f h ≡ q
kept_settled s t f [] keeps a stand h q e = cc
kept_settled s t f (x ∷ es) keeps a stand h q e =
    let tail = kept_settled s t f es keeps a.1 (λ k r i. stand k r (ap (λ o. or_option o (if x.1 == k then special_at s x.0 else None)) i)) in
    ⊎_elim (λ w. tail h q w) (λ w. here_settled s t f x es keeps a.0 stand h q w.0 (x.1 == h) refl w.1) (or_some (kept_in (special_at t) es h) (if x.1 == h then special_at t x.0 else None) q e)

-- ---- what is put for kept types

put_nothing : (b : Bool) (o : Option ℕ) → o ≡ or_option (if b then None else None) o
put_nothing true o = refl
put_nothing false o = refl

put_something : (ts : List (Option ℕ)) (k j q : ℕ) → k < length ts → (b : Bool) → (k == j) ≡ b → option_flatten (slice_get (slice_set ts k (Some q)) j) ≡ or_option (if b then Some q else None) (option_flatten (slice_get ts j))
put_something ts k j q l true e = ap (λ i. option_flatten (slice_get (slice_set ts k (Some q)) i)) (sym (eqb_eq k j e)) ∙ ap option_flatten (slice_get-set_same ts k (Some q) l)
put_something ts k j q l false e = ap option_flatten (slice_get-set_other ts k j (Some q) (λ h. false≢true (sym e ∙ eq_eqb k j (sym h))))

put_get : (ts : List (Option ℕ)) (k j : ℕ) (o : Option ℕ) → k < length ts → option_flatten (slice_get (put_kept ts k o) j) ≡ or_option (if k == j then o else None) (option_flatten (slice_get ts j))
put_get ts k j None l = put_nothing (k == j) (option_flatten (slice_get ts j))
put_get ts k j (Some q) l = put_something ts k j q l (k == j) refl

or_assoc : (a b c : Option ℕ) → or_option a (or_option b c) ≡ or_option (or_option a b) c
or_assoc None b c = refl
or_assoc (Some a) b c = refl

length-put : (ts : List (Option ℕ)) (k : ℕ) (o : Option ℕ) → length (put_kept ts k o) ≡ length ts
length-put ts k None = refl
length-put ts k (Some q) = length-set ts k (Some q)

pub length-kept_over : (f : SpecialKey → Option ℕ) (es : List Entry) (ts : List (Option ℕ)) → length (kept_over f es ts) ≡ length ts
length-kept_over f [] ts = refl
length-kept_over f (e ∷ es) ts = length-kept_over f es (put_kept ts e.1 (f e.0)) ∙ length-put ts e.1 (f e.0)

-- what kept types map to
pub kept_over_get : (f : SpecialKey → Option ℕ) (es : List Entry) (ts : List (Option ℕ)) (j : ℕ) → All (λ e. e.1 < length ts) es → option_flatten (slice_get (kept_over f es ts) j) ≡ or_option (kept_in f es j) (option_flatten (slice_get ts j))
kept_over_get f [] ts j a = refl
kept_over_get f (e ∷ es) ts j a =
    let l : e.1 < length ts = All-head (λ x. x.1 < length ts) e es a in
    let rest = subst (λ n. All (λ (x : Entry). x.1 < n) es) (sym (length-put ts e.1 (f e.0))) (All-tail (λ x. x.1 < length ts) e es a) in
    kept_over_get f es (put_kept ts e.1 (f e.0)) j rest ∙ ap (or_option (kept_in f es j)) (put_get ts e.1 j (f e.0) l) ∙ or_assoc (kept_in f es j) (if e.1 == j then f e.0 else None) (option_flatten (slice_get ts j))

kept_over-append : (f : SpecialKey → Option ℕ) (xs ys : List Entry) (ts : List (Option ℕ)) → kept_over f (xs ++ ys) ts ≡ kept_over f ys (kept_over f xs ts)
kept_over-append f [] ys ts = refl
kept_over-append f (x ∷ xs) ys ts = kept_over-append f xs ys (put_kept ts x.1 (f x.0))

with_specials-append : (f : ℕ → ℕ) (xs ys : List Entry) (s : SpecialValue) → with_specials s f (xs ++ ys) ≡ with_specials (with_specials s f xs) f ys
with_specials-append f [] ys s = refl
with_specials-append f (x ∷ xs) ys s = with_specials-append f xs ys (more s f x)

-- one entry more, in the loops
pub kept_over_more : (f : SpecialKey → Option ℕ) (es : List Entry) (i : ℕ) (e : Entry) (ts : List (Option ℕ)) → i < length es → e ≡ get_or es i e → kept_over f (take (i + 1) es) ts ≡ put_kept (kept_over f (take i es) ts) e.1 (f e.0)
kept_over_more f es i e ts l h = ap (λ xs. kept_over f xs ts) (take_more es i e l) ∙ kept_over-append f (take i es) (get_or es i e ∷ []) ts ∙ ap (λ (x : Entry). put_kept (kept_over f (take i es) ts) x.1 (f x.0)) (sym h)

pub with_specials_more : (f : ℕ → ℕ) (es : List Entry) (i : ℕ) (e : Entry) (s : SpecialValue) → i < length es → e ≡ get_or es i e → with_specials s f (take (i + 1) es) ≡ more (with_specials s f (take i es)) f e
with_specials_more f es i e s l h = ap (with_specials s f) (take_more es i e l) ∙ with_specials-append f (take i es) (get_or es i e ∷ []) s ∙ ap (more (with_specials s f (take i es)) f) (sym h)
