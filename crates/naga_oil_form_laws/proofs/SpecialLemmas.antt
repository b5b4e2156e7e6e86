-- Special types that may be special, as a module grows and as it gets more of them.
use Rattle.std.proofs.Common.{◌≡◌, inl, inr, ⊎_elim, ℕ, Bool, true, false, ◌==◌, is_some, if◌then◌else◌, List, [], ◌∷◌, ◌++◌, map, Option, Some, None, refl, sym, ◌∙◌, subst, All, nat_eq}
use Rattle.std.specs.List.{AllByRecursion, IsDistinct}
use Rattle.std.specs.Map.{lookup}
use Rattle.std.proofs.lemmas.List.{map-append}
use Rattle.std.proofs.lemmas.Bool.{or_cases, false≢true}
use Rattle.std.proofs.lemmas.List.Elements.{All-nil, All-cons, All-head, All-tail, All-weaker}
use Rattle.naga_oil_form.specs.Links.{has}
use Rattle.naga_oil_ir.specs.Rows.{Row}
use Rattle.naga_oil_ir.specs.ModuleValue.{ModuleValue, SpecialValue}
use Rattle.naga_oil_ir.specs.declared.names.ItemPlace.{ItemPlace}
use Rattle.naga_oil_ir.specs.declared.names.ItemPlace.TheVariants.{TypeItem, ConstantItem, OverrideItem, GlobalItem, ExpressionItem}
use Rattle.naga_oil_form.proofs.LinkLemmas.{eqb_eq, eq_eqb, or_left, or_right}
use Rattle.naga_oil_derive.specs.declared.special.SpecialKey.{SpecialKey}
use Rattle.naga_oil_derive.specs.declared.special.SpecialKey.TheVariants.{RayDesc, RayIntersection, RayVertexReturn, Predeclared}
use Rattle.naga_oil_derive.specs.World.{world, kept_of, kept_in, special_entry, special_entries, special_at, with_special, with_specials}
use Rattle.naga_oil_derive.proofs.SpecialLemmas.{Entry, coded, entries_nested}
use Rattle.naga_oil_derive.proofs.DeriveLemmas.{kept_key, some_mapped}
use Rattle.naga_oil_form_laws.specs.ItemsStand.{ItemsStand, IsSpecial, IsPlain, MayBeSpecial}
use Rattle.naga_oil_form_laws.proofs.ItemLemmas.{Stays, reaches_later, unsized_later}

all_append : (P : Entry → Type 0) (xs ys : List Entry) → All P xs → All P ys → All P (xs ++ ys)
all_append P [] ys a b = b
all_append P (x ∷ xs) ys a b = All-cons P x (xs ++ ys) (All-head P x xs a) (all_append P xs ys (All-tail P x xs a) b)

all_left : (P : Entry → Type 0) (xs ys : List Entry) → All P (xs ++ ys) → All P xs
all_left P [] ys a = All-nil P
all_left P (x ∷ xs) ys a = All-cons P x xs (All-head P x (xs ++ ys) a) (all_left P xs ys (All-tail P x (xs ++ ys) a))

all_right : (P : Entry → Type 0) (xs ys : List Entry) → All P (xs ++ ys) → All P ys
all_right P [] ys a = a
all_right P (x ∷ xs) ys a = all_right P xs ys (All-tail P x (xs ++ ys) a)

-- ---- by parts

-- what holds of each special type, by the kinds of keys
record ByParts (P : Entry → Type 0) (s : SpecialValue) : Type 0 where
  ray_desc : All P (special_entry RayDesc s.ray_desc)
  ray_intersection : All P (special_entry RayIntersection s.ray_intersection)
  ray_vertex_return : All P (special_entry RayVertexReturn s.ray_vertex_return)
  predeclared : All P (coded s.predeclared_types)

parts_of : (P : Entry → Type 0) (s : SpecialValue) → All P (special_entries s) → ByParts P s
parts_of P s a =
    let x = special_entry RayDesc s.ray_desc in
    let y = special_entry RayIntersection s.ray_intersection in
    let z = special_entry RayVertexReturn s.ray_vertex_return in
    let cs = coded s.predeclared_types in
    let n = subst (All P) (entries_nested s) a in
    let r = all_right P x (y ++ (z ++ cs)) n in
    let l = all_right P y (z ++ cs) r in
    record { ray_desc = all_left P x (y ++ (z ++ cs)) n; ray_intersection = all_left P y (z ++ cs) r; ray_vertex_return = all_left P z cs l; predeclared = all_right P z cs l }

of_parts : (P : Entry → Type 0) (s : SpecialValue) → ByParts P s → All P (special_entries s)
of_parts P s b =
    let x = special_entry RayDesc s.ray_desc in
    let y = special_entry RayIntersection s.ray_intersection in
    let z = special_entry RayVertexReturn s.ray_vertex_return in
    let cs = coded s.predeclared_types in
    subst (All P) (sym (entries_nested s)) (all_append P x (y ++ (z ++ cs)) b.ray_desc (all_append P y (z ++ cs) b.ray_intersection (all_append P z cs b.ray_vertex_return b.predeclared)))

-- ---- one more special type

one_entry : (P : Entry → Type 0) (e : Entry) → P e → All P (e ∷ [])
one_entry P e h = All-cons P e [] h (All-nil P)

coded_more : (P : Entry → Type 0) (c h : ℕ) (xs : List (ℕ × ℕ)) → All P (coded xs) → P (Predeclared c, h) → All P (coded (xs ++ (c, h) ∷ []))
coded_more P c h [] a p = one_entry P (Predeclared c, h) p
coded_more P c h (x ∷ xs) a p = All-cons P (Predeclared x.0, x.1) (coded (xs ++ (c, h) ∷ [])) (All-head P (Predeclared x.0, x.1) (coded xs) a) (coded_more P c h xs (All-tail P (Predeclared x.0, x.1) (coded xs) a) p)

with_one : (P : Entry → Type 0) (s : SpecialValue) (key : SpecialKey) (h : ℕ) → All P (special_entries s) → P (key, h) → All P (special_entries (with_special s key h))
with_one P s RayDesc h a p = let b = parts_of P s a in of_parts P (with_special s RayDesc h) (record { ray_desc = one_entry P (RayDesc, h) p; ray_intersection = b.ray_intersection; ray_vertex_return = b.ray_vertex_return; predeclared = b.predeclared })
with_one P s RayIntersection h a p = let b = parts_of P s a in of_parts P (with_special s RayIntersection h) (record { ray_desc = b.ray_desc; ray_intersection = one_entry P (RayIntersection, h) p; ray_vertex_return = b.ray_vertex_return; predeclared = b.predeclared })
with_one P s RayVertexReturn h a p = let b = parts_of P s a in of_parts P (with_special s RayVertexReturn h) (record { ray_desc = b.ray_desc; ray_intersection = b.ray_intersection; ray_vertex_return = one_entry P (RayVertexReturn, h) p; predeclared = b.predeclared })
with_one P s (Predeclared c) h a p = let b = parts_of P s a in of_parts P (with_special s (Predeclared c) h) (record { ray_desc = b.ray_desc; ray_intersection = b.ray_intersection; ray_vertex_return = b.ray_vertex_return; predeclared = coded_more P c h s.predeclared_types b.predeclared p })

with_if : (P : Entry → Type 0) (s : SpecialValue) (key : SpecialKey) (h : ℕ) (b : Bool) → All P (special_entries s) → P (key, h) → All P (special_entries (if b then s else with_special s key h))
with_if P s key h true a p = a
with_if P s key h false a p = with_one P s key h a p

-- what holds of the special types, and of what more of them map to, holds of all
pub with_all : (P : Entry → Type 0) (s : SpecialValue) (f : ℕ → ℕ) (es : List Entry) → All P (special_entries s) → All (λ (e : Entry). P (e.0, f e.1)) es → All P (special_entries (with_specials s f es))
with_all P s f [] a b = a
with_all P s f (e ∷ es) a b =
    with_all P (if is_some (special_at s e.0) then s else with_special s e.0 (f e.1)) f es (with_if P s e.0 (f e.1) (is_some (special_at s e.0)) a (All-head (λ (x : Entry). P (x.0, f x.1)) e es b)) (All-tail (λ (x : Entry). P (x.0, f x.1)) e es b)

-- ---- special types without the last ones

coded_fewer : (P : Entry → Type 0) (c h : ℕ) (xs : List (ℕ × ℕ)) → All P (coded (xs ++ (c, h) ∷ [])) → All P (coded xs)
coded_fewer P c h [] a = All-nil P
coded_fewer P c h (x ∷ xs) a = All-cons P (Predeclared x.0, x.1) (coded xs) (All-head P (Predeclared x.0, x.1) (coded (xs ++ (c, h) ∷ [])) a) (coded_fewer P c h xs (All-tail P (Predeclared x.0, x.1) (coded (xs ++ (c, h) ∷ [])) a))

no_entry : (P : Entry → Type 0) (key : SpecialKey) (o : Option ℕ) → o ≡ None → All P (special_entry key o)
no_entry P key None e = All-nil P
no_entry P key (Some h) e = cc

without_one : (P : Entry → Type 0) (s : SpecialValue) (key : SpecialKey) (h : ℕ) → special_at s key ≡ None → All P (special_entries (with_special s key h)) → All P (special_entries s)
without_one P s RayDesc h e a = let b = parts_of P (with_special s RayDesc h) a in of_parts P s (record { ray_desc = no_entry P RayDesc s.ray_desc e; ray_intersection = b.ray_intersection; ray_vertex_return = b.ray_vertex_return; predeclared = b.predeclared })
without_one P s RayIntersection h e a = let b = parts_of P (with_special s RayIntersection h) a in of_parts P s (record { ray_desc = b.ray_desc; ray_intersection = no_entry P RayIntersection s.ray_intersection e; ray_vertex_return = b.ray_vertex_return; predeclared = b.predeclared })
without_one P s RayVertexReturn h e a = let b = parts_of P (with_special s RayVertexReturn h) a in of_parts P s (record { ray_desc = b.ray_desc; ray_intersection = b.ray_intersection; ray_vertex_return = no_entry P RayVertexReturn s.ray_vertex_return e; predeclared = b.predeclared })
without_one P s (Predeclared c) h e a = let b = parts_of P (with_special s (Predeclared c) h) a in of_parts P s (record { ray_desc = b.ray_desc; ray_intersection = b.ray_intersection; ray_vertex_return = b.ray_vertex_return; predeclared = coded_fewer P c h s.predeclared_types b.predeclared })

without_if : (P : Entry → Type 0) (s : SpecialValue) (key : SpecialKey) (h : ℕ) (o : Option ℕ) → special_at s key ≡ o → All P (special_entries (if is_some o then s else with_special s key h)) → All P (special_entries s)
without_if P s key h None e a = without_one P s key h e a
without_if P s key h (Some q) e a = a

-- what holds of more special types holds of those before
pub without_all : (P : Entry → Type 0) (s : SpecialValue) (f : ℕ → ℕ) (es : List Entry) → All P (special_entries (with_specials s f es)) → All P (special_entries s)
without_all P s f [] a = a
without_all P s f (e ∷ es) a =
    without_if P s e.0 (f e.1) (special_at s e.0) refl (without_all P (if is_some (special_at s e.0) then s else with_special s e.0 (f e.1)) f es a)

-- ---- the special type of a key

entry_here : (P : Entry → Type 0) (key : SpecialKey) (o : Option ℕ) (q : ℕ) → All P (special_entry key o) → o ≡ Some q → P (key, q)
entry_here P key None q a e = cc
entry_here P key (Some h) q a e = let g : h ≡ q = cc in subst (λ x. P (key, x)) g (All-head P (key, h) [] a)

found_if : (P : Entry → Type 0) (c : ℕ) (x : ℕ × ℕ) (o : Option ℕ) (q : ℕ) (b : Bool) → nat_eq c x.0 ≡ b → P (Predeclared x.0, x.1) → (o ≡ Some q → P (Predeclared c, q)) → (if b then Some x.1 else o) ≡ Some q → P (Predeclared c, q)
found_if P c x o q true is h ih e =
    let g : x.1 ≡ q = cc in
    let k : c ≡ x.0 = eqb_eq c x.0 is in
    subst (λ y. P (Predeclared c, y)) g (subst (λ y. P (Predeclared y, x.1)) (sym k) h)
found_if P c x o q false is h ih e = ih e

found : (P : Entry → Type 0) (c q : ℕ) (xs : List (ℕ × ℕ)) → All P (coded xs) → lookup (nat_eq c) xs ≡ Some q → P (Predeclared c, q)
found P c q [] a e = cc
found P c q (x ∷ xs) a e =
    found_if P c x (lookup (nat_eq c) xs) q (nat_eq c x.0) refl (All-head P (Predeclared x.0, x.1) (coded xs) a) (found P c q xs (All-tail P (Predeclared x.0, x.1) (coded xs) a)) e

-- what holds of each special type holds of that of a key
pub at_key : (P : Entry → Type 0) (s : SpecialValue) (key : SpecialKey) (q : ℕ) → All P (special_entries s) → special_at s key ≡ Some q → P (key, q)
at_key P s RayDesc q a e = entry_here P RayDesc s.ray_desc q (parts_of P s a).ray_desc e
at_key P s RayIntersection q a e = entry_here P RayIntersection s.ray_intersection q (parts_of P s a).ray_intersection e
at_key P s RayVertexReturn q a e = entry_here P RayVertexReturn s.ray_vertex_return q (parts_of P s a).ray_vertex_return e
at_key P s (Predeclared c) q a e = found P c q s.predeclared_types (parts_of P s a).predeclared e

-- ---- a type is special

abbrev pub places : List Entry → List ℕ
places es = map (λ (e : Entry). e.1) es

are_among : (es : List Entry) → All (λ (e : Entry). has (places es) e.1 ≡ true) es
are_among [] = All-nil (λ (e : Entry). has [] e.1 ≡ true)
are_among (x ∷ es) =
    All-cons (λ (e : Entry). has (places (x ∷ es)) e.1 ≡ true) x es (or_left (x.1 == x.1) (has (places es) x.1) (eq_eqb x.1 x.1 refl)) (All-weaker (λ (e : Entry). has (places es) e.1 ≡ true) (λ (e : Entry). has (places (x ∷ es)) e.1 ≡ true) (λ e h. or_right (x.1 == e.1) (has (places es) e.1) h) es (are_among es))

pub key_special : (s : SpecialValue) (key : SpecialKey) (q : ℕ) → special_at s key ≡ Some q → IsSpecial s q
key_special s key q e = at_key (λ (x : Entry). IsSpecial s x.1) s key q (are_among (special_entries s)) e

-- the entry of a special type
pub special_entry_of : (Q : Entry → Type 0) (es : List Entry) (k : ℕ) → All Q es → has (places es) k ≡ true → (e : Entry) × (e.1 ≡ k) × Q e
special_entry_of Q [] k a h = absurd (false≢true h)
special_entry_of Q (x ∷ es) k a h =
    ⊎_elim (λ e. (x, eqb_eq x.1 k e, All-head Q x es a)) (λ e. special_entry_of Q es k (All-tail Q x es a) e) (or_cases (x.1 == k) (has (places es) k) h)

-- more special types are special still
pub special_more : (s t : SpecialValue) → All (λ (e : Entry). IsSpecial t e.1) (special_entries s) → (k : ℕ) → IsSpecial s k → IsSpecial t k
special_more s t a k h = let e = special_entry_of (λ (x : Entry). IsSpecial t x.1) (special_entries s) k a h in subst (IsSpecial t) e.1 e.2

pub specials_among : (s : SpecialValue) → All (λ (e : Entry). IsSpecial s e.1) (special_entries s)
specials_among s = are_among (special_entries s)

-- ---- growth

plain_more : (s t : SpecialValue) → ((k : ℕ) → IsSpecial s k → IsSpecial t k) → (k : ℕ) (r : Row) → IsPlain s k r → IsPlain t k r
plain_more s t f k r (inl e) = inl e
plain_more s t f k r (inr h) = inr (f k h)

-- a special type may be special in a module that has more items and special types
pub special_later : (m n : ModuleValue) → Stays (world m) (world n) → ItemsStand (world m) → ((k : ℕ) → IsSpecial m.special_types k → IsSpecial n.special_types k) → (k : ℕ) → MayBeSpecial m k → MayBeSpecial n k
special_later m n stays i more k h = record {
  there = (h.there.0, stays (TypeItem k) h.there.0 h.there.1);
  unsized = unsized_later (world m) (world n) stays i k h.there h.unsized;
  plain = λ d. reaches_later (world m) (world n) (IsPlain m.special_types) (IsPlain n.special_types) stays i (λ j r e x. plain_more m.special_types n.special_types more j r x) d k h.there (h.plain d);
}

-- a kept type may be special
pub kept_special : (m : SpecialValue) (t : ModuleValue) → All (λ (e : Entry). MayBeSpecial t e.1) (special_entries t.special_types) → (p : ItemPlace) (j : ℕ) → kept_of m t.special_types p ≡ Some (TypeItem j) → MayBeSpecial t j
unfolding kept_of
kept_special m t a (TypeItem k) j e =
    let o = some_mapped (kept_in (special_at t.special_types) (special_entries m) k) (TypeItem j) e in
    let is : j ≡ o.0 = (let g : TypeItem j ≡ TypeItem o.0 = o.2 in cc) in
    let key = kept_key (special_at t.special_types) (special_entries m) k o.0 o.1 in
    subst (MayBeSpecial t) (sym is) (at_key (λ (e : Entry). MayBeSpecial t e.1) t.special_types key.0 o.0 a key.1)
kept_special m t a (ConstantItem k) j e = cc
kept_special m t a (OverrideItem k) j e = cc
kept_special m t a (GlobalItem k) j e = cc
kept_special m t a (ExpressionItem k) j e = cc

-- ---- keys stay distinct

abbrev codes_of : SpecialValue → List ℕ
codes_of s = map (λ e. e.0) s.predeclared_types

push_each : (P : ℕ → Type 0) (xs : List ℕ) (y : ℕ) → AllByRecursion P xs → P y → AllByRecursion P (xs ++ y ∷ [])
push_each P [] y a p = (p, tt)
push_each P (x ∷ xs) y a p = (a.0, push_each P xs y a.1 p)

distinct_push : (xs : List ℕ) (y : ℕ) → IsDistinct nat_eq xs → AllByRecursion (λ x. nat_eq x y ≡ false) xs → IsDistinct nat_eq (xs ++ y ∷ [])
unfolding IsDistinct
distinct_push [] y d a = (tt, tt)
distinct_push (x ∷ xs) y d a = (push_each (λ z. nat_eq x z ≡ false) xs y d.0 a.0, distinct_push xs y d.1 a.1)

not_equal : (c x : ℕ) (b : Bool) → nat_eq c x ≡ false → nat_eq x c ≡ b → nat_eq x c ≡ false
not_equal c x true n e = absurd (false≢true (sym n ∙ eq_eqb c x (sym (eqb_eq x c e))))
not_equal c x false n e = e

absent_one : (c : ℕ) (x : ℕ × ℕ) (o : Option ℕ) (b : Bool) → nat_eq c x.0 ≡ b → (if b then Some x.1 else o) ≡ None → (nat_eq c x.0 ≡ false) × (o ≡ None)
absent_one c x o true e h = cc
absent_one c x o false e h = (e, h)

absent : (c : ℕ) (xs : List (ℕ × ℕ)) → lookup (nat_eq c) xs ≡ None → AllByRecursion (λ x. nat_eq x c ≡ false) (map (λ e. e.0) xs)
absent c [] h = tt
absent c (x ∷ xs) h =
    let one = absent_one c x (lookup (nat_eq c) xs) (nat_eq c x.0) refl h in
    (not_equal c x.0 (nat_eq x.0 c) one.0 refl, absent c xs one.1)

keys_one : (s : SpecialValue) (key : SpecialKey) (h : ℕ) → special_at s key ≡ None → IsDistinct nat_eq (codes_of s) → IsDistinct nat_eq (codes_of (with_special s key h))
keys_one s RayDesc h e d = d
keys_one s RayIntersection h e d = d
keys_one s RayVertexReturn h e d = d
keys_one s (Predeclared c) h e d = subst (IsDistinct nat_eq) (sym (map-append (λ (x : ℕ × ℕ). x.0) s.predeclared_types ((c, h) ∷ []))) (distinct_push (codes_of s) c d (absent c s.predeclared_types e))

keys_if : (s : SpecialValue) (key : SpecialKey) (h : ℕ) (o : Option ℕ) → special_at s key ≡ o → IsDistinct nat_eq (codes_of s) → IsDistinct nat_eq (codes_of (if is_some o then s else with_special s key h))
keys_if s key h None e d = keys_one s key h e d
keys_if s key h (Some q) e d = d

pub keys_all : (s : SpecialValue) (f : ℕ → ℕ) (es : List Entry) → IsDistinct nat_eq (codes_of s) → IsDistinct nat_eq (codes_of (with_specials s f es))
keys_all s f [] d = d
keys_all s f (e ∷ es) d = keys_all (if is_some (special_at s e.0) then s else with_special s e.0 (f e.1)) f es (keys_if s e.0 (f e.1) (special_at s e.0) refl d)
