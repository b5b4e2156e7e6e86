-- Trails that grow, and visits that add nothing to a trail.
use Rattle.std.proofs.Common.{◌≡◌, ⊎_elim, ◌⊎◌, inl, inr, ℕ, zero, suc, ◌+◌, ◌*◌, ◌==◌, Bool, true, false, ◌||◌, ◌&&◌, if◌then◌else◌, List, [], ◌∷◌, ◌++◌, fold, map, length, Option, Some, None, is_some, IsSome, slice_get, All, refl, ap, sym, ◌∙◌, subst, arith, append-nil, append_assoc}
use Rattle.std.specs.List.{flat_map, list_any}
use Rattle.std.proofs.lemmas.Bool.{false≢true}
use Rattle.std.proofs.lemmas.List.Elements.{All-nil, All-cons, All-append, All-weaker, All-head, All-tail}
use Rattle.std.proofs.lemmas.List.Folds.{list_any-append}
use Rattle.std.proofs.lemmas.Slice.Eq.{bytes_eq-Decides}
use Rattle.naga_oil_form.proofs.LinkLemmas.{or_left, or_right, and_both, eq_eqb, same_bool}
use Rattle.naga_oil_ir.specs.ModuleValue.{ModuleValue}
use Rattle.naga_oil_ir.specs.Rows.{Text}
use Rattle.naga_oil_ir.specs.declared.names.ItemPlace.{ItemPlace}
use Rattle.naga_oil_ir.specs.declared.names.ItemPlace.TheVariants.{TypeItem, ConstantItem, OverrideItem, GlobalItem, ExpressionItem}
use Rattle.naga_oil_walk.specs.declared.walk.Request.{Request}
use Rattle.naga_oil_walk.specs.declared.walk.Request.TheVariants.{Item, Call}
use Rattle.naga_oil_derive.specs.declared.special.SpecialKey.{SpecialKey}
use Rattle.naga_oil_derive.specs.Collected.{depth}
use Rattle.naga_oil_derive.specs.CopiedLaw.{AreSpecial}
use Rattle.naga_oil_derive.specs.DerivedFunctions.{requests_of}
use Rattle.naga_oil_derive.specs.World.{world, special_at, special_entries}
use Rattle.naga_oil_derive.proofs.SpecialLemmas.{Entry}
use Rattle.naga_oil_collected_laws.specs.FirstReach.{Reached, from, is_named, has_name}
use Rattle.naga_oil_collected_laws.specs.Trail.{PlaceIn, Trail, Caller, Visit, named_by, is_special_for, items_from, reached_by, special_items, with_item, with_source, with_request, with_reached, with_new, with_found, with_call, with_function, with_visit}
use Rattle.naga_oil_collected_laws.proofs.Followed.{places_in, places_both}
use Rattle.naga_oil_collected_laws.proofs.Follows.{Function}
use Rattle.naga_oil_collected_laws.proofs.Linked.{stay_before}
use Rattle.naga_oil_collected_laws.proofs.Sources.{keys_own, or_either}

-- ---- items in a list

abbrev pub In : List PlaceIn → PlaceIn → Type 0
In [] r = ⊥
In (x ∷ xs) r = (x ≡ r) ⊎ In xs r

in_left : (xs ys : List PlaceIn) (r : PlaceIn) → In xs r → In (xs ++ ys) r
in_left [] ys r h = absurd h
in_left (x ∷ xs) ys r h = ⊎_elim inl (λ o. inr (in_left xs ys r o)) h

in_right : (xs ys : List PlaceIn) (r : PlaceIn) → In ys r → In (xs ++ ys) r
in_right [] ys r h = h
in_right (x ∷ xs) ys r h = inr (in_right xs ys r h)

all_in : (xs : List PlaceIn) → All (In xs) xs
all_in [] = All-nil (In [])
all_in (x ∷ xs) = All-cons (In (x ∷ xs)) x xs (inl refl) (All-weaker (In xs) (In (x ∷ xs)) (λ r h. inr h) xs (all_in xs))

-- ---- trails that grow

-- a trail with more items and functions
record Grows (t u : Trail) : Type 0 where
  extra : List PlaceIn
  items : u.items ≡ t.items ++ extra
  names : (n : Text) → has_name t.functions n ≡ true → has_name u.functions n ≡ true
  keys : u.keys ≡ t.keys

grows_none : (t : Trail) → Grows t t
grows_none t = record { extra = []; items = sym (append-nil t.items); names = λ n h. h; keys = refl }

grows_then : (t u v : Trail) → Grows t u → Grows u v → Grows t v
grows_then t u v a b = record {
  extra = a.extra ++ b.extra;
  items = b.items ∙ ap (λ xs. xs ++ b.extra) a.items ∙ append_assoc t.items a.extra b.extra;
  names = λ n h. b.names n (a.names n h);
  keys = b.keys ∙ a.keys;
}

item_grows : (m : ModuleValue) (t : Trail) (p : ItemPlace) → Grows t (with_item m t p)
item_grows m t p = record { extra = places_in m (reached_by t.keys m p); items = refl; names = λ n h. h; keys = refl }

requests_grow : (m : ModuleValue) (f : Caller) → ((t : Trail) (k : ℕ) → Grows t (f t k)) → (rs : List Request) (t : Trail) → Grows t (fold (with_request m f) t rs)
requests_grow m f h [] t = grows_none t
requests_grow m f h (Item p ∷ rs) t = let u = with_item m t p in grows_then t u (fold (with_request m f) u rs) (item_grows m t p) (requests_grow m f h rs u)
requests_grow m f h (Call k ∷ rs) t = let u = f t k in grows_then t u (fold (with_request m f) u rs) (h t k) (requests_grow m f h rs u)

reached_grows : (r : Reached) (t : Trail) → Grows t (with_reached r t)
reached_grows r t = record { extra = []; items = sym (append-nil t.items); names = stay_before t.functions r; keys = refl }

new_grows : (f : Caller) → ((t : Trail) (k : ℕ) → Grows t (f t k)) → (t : Trail) (r : Reached) → Grows t (with_new f t r)
new_grows f h t r = one (has_name t.functions r.function.0.name)
  where
    one : (b : Bool) → Grows t (if b then t else with_reached r (fold (with_request r.source f) t (requests_of r.function.0)))
    one true = grows_none t
    one false =
        let u = fold (with_request r.source f) t (requests_of r.function.0) in
        grows_then t u (with_reached r u) (requests_grow r.source f h (requests_of r.function.0) t) (reached_grows r u)

call_grows : (n : ℕ) (m : ModuleValue) (shift : ℕ) (t : Trail) (k : ℕ) → Grows t (with_call n m shift t k)
unfolding with_call
call_grows zero m shift t k = grows_none t
call_grows (suc n) m shift t k = one (call_grows n m shift) (slice_get m.functions k)
  where
    one : ((t : Trail) (k : ℕ) → Grows t (with_call n m shift t k)) → (o : Option Function) → Grows t (with_found (with_call n m shift) m shift t o)
    one below None = grows_none t
    one below (Some e) = new_grows (with_call n m shift) below t (from m shift e)

function_grows : (t : Trail) (r : Reached) → Grows t (with_function t r)
function_grows t r = new_grows (with_call (length r.source.functions) r.source r.offset) (call_grows (length r.source.functions) r.source r.offset) t r

functions_grow : (rs : List Reached) (t : Trail) → Grows t (fold with_function t rs)
functions_grow [] t = grows_none t
functions_grow (r ∷ rs) t = let u = with_function t r in grows_then t u (fold with_function u rs) (function_grows t r) (functions_grow rs u)

-- items one after another
abbrev with_more : Trail → List PlaceIn → Trail
with_more t xs = record t { items = t.items ++ xs }

items_fold : (m : ModuleValue) (ps : List ItemPlace) (t : Trail) → fold (with_item m) t ps ≡ with_more t (places_in m (flat_map (reached_by t.keys m) ps))
items_fold m [] t = ap (λ xs. record t { items = xs }) (sym (append-nil t.items))
items_fold m (p ∷ ps) t =
    let own = places_in m (reached_by t.keys m p) in
    let rest = flat_map (reached_by t.keys m) ps in
    items_fold m ps (with_item m t p)
    ∙ ap (λ xs. record t { items = xs }) (append_assoc t.items own (places_in m rest) ∙ ap (λ xs. t.items ++ xs) (sym (places_both m (reached_by t.keys m p) rest)))

-- ---- functions whose names are known

abbrev pub HasName : Reached → Type 0
HasName r = IsSome r.function.0.name

abbrev Known : Trail → Reached → Type 0
Known t r = has_name t.functions r.function.0.name ≡ true

last_known : (rs : List Reached) (r : Reached) (n : Text) → IsSome n → r.function.0.name ≡ n → has_name (rs ++ r ∷ []) n ≡ true
last_known rs r None h e = absurd (false≢true h)
last_known rs r (Some n) h e =
    let test = λ (y : Reached). is_named n y.function.0.name in
    list_any-append test rs (r ∷ []) ∙ or_right (list_any test rs) (is_named n r.function.0.name || false) (or_left (is_named n r.function.0.name) false (ap (is_named n) e ∙ (bytes_eq-Decides n n).1 refl))

itself : (t : Trail) (r : Reached) → HasName r → Known (with_function t r) r
itself t r s = one (has_name t.functions r.function.0.name) refl
  where
    f : Caller
    f = with_call (length r.source.functions) r.source r.offset

    one : (b : Bool) → has_name t.functions r.function.0.name ≡ b → (let u : Trail = if b then t else with_reached r (fold (with_request r.source (with_call (length r.source.functions) r.source r.offset)) t (requests_of r.function.0)) in has_name u.functions r.function.0.name ≡ true)
    one true e = e
    one false e = last_known (let u : Trail = fold (with_request r.source (with_call (length r.source.functions) r.source r.offset)) t (requests_of r.function.0) in u.functions) r r.function.0.name s refl

all_known : (rs : List Reached) (t : Trail) → All HasName rs → All (Known (fold with_function t rs)) rs
all_known [] t a = All-nil (Known t)
all_known (r ∷ rs) t a =
    let u = with_function t r in
    let g = functions_grow rs u in
    All-cons (Known (fold with_function u rs)) r rs (g.names r.function.0.name (itself t r (All-head HasName r rs a))) (all_known rs u (All-tail HasName r rs a))

-- they add nothing
known_again : (rs : List Reached) (t : Trail) → All (Known t) rs → fold with_function t rs ≡ t
known_again [] t a = refl
known_again (r ∷ rs) t a =
    let f = with_call (length r.source.functions) r.source r.offset in
    let same : with_function t r ≡ t = ap (λ (b : Bool). if b then t else with_reached r (fold (with_request r.source f) t (requests_of r.function.0))) (All-head (Known t) r rs a) in
    ap (λ u. fold with_function u rs) same ∙ known_again rs t (All-tail (Known t) r rs a)

-- ---- special types that are there

abbrev IsKey : (SpecialKey → Bool) → Entry → Type 0
IsKey keys e = keys e.0 ≡ true

abbrev is_for : (SpecialKey → Bool) → ℕ → Entry → Bool
is_for keys k = λ e. (e.1 == k) && keys e.0

-- where all of these keys have types, each of these special types is there
each_there : (keys : SpecialKey → Bool) (es : List Entry) → All (IsKey keys) es → All (λ (e : Entry). list_any (is_for keys e.1) es ≡ true) es
each_there keys [] a = All-nil (λ (e : Entry). list_any (is_for keys e.1) [] ≡ true)
each_there keys (x ∷ es) a =
    All-cons (λ (e : Entry). list_any (is_for keys e.1) (x ∷ es) ≡ true) x es
    (or_left ((x.1 == x.1) && keys x.0) (list_any (is_for keys x.1) es) (and_both (x.1 == x.1) (keys x.0) (eq_eqb x.1 x.1 refl) (All-head (IsKey keys) x es a)))
    (All-weaker (λ (e : Entry). list_any (is_for keys e.1) es ≡ true) (λ (e : Entry). list_any (is_for keys e.1) (x ∷ es) ≡ true) (λ e h. or_right ((x.1 == e.1) && keys x.0) (list_any (is_for keys e.1) es) h) es (each_there keys es (All-tail (IsKey keys) x es a)))

reached_there : (keys : SpecialKey → Bool) (m : ModuleValue) (p : ItemPlace) → is_special_for keys m p ≡ true → reached_by keys m p ≡ []
unfolding items_from
reached_there keys m p h =
    let d : depth m ≡ suc (2 * length m.types + 2 * length m.global_expressions + 1) = omega arith in
    ap (λ n. items_from n m (is_special_for keys m) p) d ∙ ap (λ (b : Bool). if b then [] else flat_map (items_from (2 * length m.types + 2 * length m.global_expressions + 1) m (is_special_for keys m)) (named_by (world m p)) ++ p ∷ []) h

none_reached : (keys : SpecialKey → Bool) (m : ModuleValue) (es : List Entry) → All (λ (e : Entry). is_special_for keys m (TypeItem e.1) ≡ true) es → flat_map (reached_by keys m) (map (λ (e : Entry). TypeItem e.1) es) ≡ []
none_reached keys m [] a = refl
none_reached keys m (e ∷ es) a =
    let P = λ (e : Entry). is_special_for keys m (TypeItem e.1) ≡ true in
    ap (λ xs. xs ++ flat_map (reached_by keys m) (map (λ (e : Entry). TypeItem e.1) es)) (reached_there keys m (TypeItem e.1) (All-head P e es a)) ∙ none_reached keys m es (All-tail P e es a)

same_test : (a b c : Bool) → a ≡ true → b ≡ true → (c && a) ≡ (c && b)
same_test a b c x y = ap (λ z. c && z) (x ∙ sym y)

same_any : (a b : SpecialKey → Bool) (k : ℕ) (es : List Entry) → All (IsKey a) es → All (IsKey b) es → list_any (is_for a k) es ≡ list_any (is_for b k) es
same_any a b k [] x y = refl
same_any a b k (e ∷ es) x y =
    ap (λ z. z || list_any (is_for a k) es) (same_test (a e.0) (b e.0) (e.1 == k) (All-head (IsKey a) e es x) (All-head (IsKey b) e es y)) ∙ ap (λ z. is_for b k e || z) (same_any a b k es (All-tail (IsKey a) e es x) (All-tail (IsKey b) e es y))

same_special : (a b : SpecialKey → Bool) (m : ModuleValue) → All (IsKey a) (special_entries m.special_types) → All (IsKey b) (special_entries m.special_types) → (p : ItemPlace) → is_special_for a m p ≡ is_special_for b m p
same_special a b m x y (TypeItem k) = same_any a b k (special_entries m.special_types) x y
same_special a b m x y (ConstantItem k) = refl
same_special a b m x y (OverrideItem k) = refl
same_special a b m x y (GlobalItem k) = refl
same_special a b m x y (ExpressionItem k) = refl

-- then its items reach the same
same_reached : (a b : SpecialKey → Bool) (m : ModuleValue) → All (IsKey a) (special_entries m.special_types) → All (IsKey b) (special_entries m.special_types) → (ps : List ItemPlace) → flat_map (reached_by a m) ps ≡ flat_map (reached_by b m) ps
same_reached a b m x y ps =
    let same : is_special_for a m ≡ is_special_for b m = λ i p. same_special a b m x y p i in
    ap (λ (f : ItemPlace → Bool). flat_map (items_from (depth m) m f) ps) same

-- ---- visits

-- u has what t has
pub record Later (t u : Trail) : Type 0 where
  pub items : (r : PlaceIn) → In t.items r → In u.items r
  pub names : (n : Text) → has_name t.functions n ≡ true → has_name u.functions n ≡ true
  pub keys : (k : SpecialKey) → t.keys k ≡ true → u.keys k ≡ true

pub later_none : (t : Trail) → Later t t
later_none t = record { items = λ r h. h; names = λ n h. h; keys = λ k h. h }

pub later_then : (t u v : Trail) → Later t u → Later u v → Later t v
later_then t u v a b = record { items = λ r h. b.items r (a.items r h); names = λ n h. b.names n (a.names n h); keys = λ k h. b.keys k (a.keys k h) }

-- u is t with items that it had
pub record IsIdle (t u : Trail) : Type 0 where
  pub extra : List PlaceIn
  pub items : u.items ≡ t.items ++ extra
  pub old : All (In t.items) extra
  pub names : (n : Text) → has_name u.functions n ≡ has_name t.functions n
  pub keys : (k : SpecialKey) → u.keys k ≡ t.keys k

idle_none : (t : Trail) → IsIdle t t
idle_none t = record { extra = []; items = sym (append-nil t.items); old = All-nil (In t.items); names = λ n. refl; keys = λ k. refl }

in_old : (xs es : List PlaceIn) → All (In xs) es → (r : PlaceIn) → In es r → In xs r
in_old xs [] a r h = absurd h
in_old xs (e ∷ es) a r h = ⊎_elim (λ s. subst (In xs) s (All-head (In xs) e es a)) (λ o. in_old xs es (All-tail (In xs) e es a) r o) h

in_either : (xs ys : List PlaceIn) (r : PlaceIn) → In (xs ++ ys) r → In xs r ⊎ In ys r
in_either [] ys r h = inr h
in_either (x ∷ xs) ys r h = ⊎_elim (λ e. inl (inl e)) (λ o. ⊎_elim (λ y. inl (inr y)) inr (in_either xs ys r o)) h

-- what u has, t has
idle_in : (t u : Trail) → IsIdle t u → (r : PlaceIn) → In u.items r → In t.items r
idle_in t u i r h = ⊎_elim (λ x. x) (λ x. in_old t.items i.extra i.old r x) (in_either t.items i.extra r (subst (λ xs. In xs r) i.items h))

idle_then : (t u v : Trail) → IsIdle t u → IsIdle u v → IsIdle t v
idle_then t u v a b = record {
  extra = a.extra ++ b.extra;
  items = b.items ∙ ap (λ xs. xs ++ b.extra) a.items ∙ append_assoc t.items a.extra b.extra;
  old = All-append (In t.items) a.extra b.extra a.old (All-weaker (In u.items) (In t.items) (idle_in t u a) b.extra b.old);
  names = λ n. b.names n ∙ a.names n;
  keys = λ k. b.keys k ∙ a.keys k;
}

pub idle_later : (t u : Trail) → IsIdle t u → Later t u
idle_later t u i = record {
  items = λ r h. subst (λ xs. In xs r) (sym i.items) (in_left t.items i.extra r h);
  names = λ n h. i.names n ∙ h;
  keys = λ k h. i.keys k ∙ h;
}

-- a visit adds nothing, now and later
abbrev pub Done : Trail → Visit → Type 0
Done t v = (u : Trail) → Later t u → IsIdle u (with_visit u v)

pub done_later : (t u : Trail) → Later t u → (vs : List Visit) → All (Done t) vs → All (Done u) vs
done_later t u l vs a = All-weaker (Done t) (Done u) (λ v h w y. h w (later_then t u w l y)) vs a

-- neither do such visits one after another
pub idle_visits : (vs : List Visit) (t : Trail) → All (Done t) vs → IsIdle t (fold with_visit t vs)
idle_visits [] t a = idle_none t
idle_visits (v ∷ vs) t a =
    let u = with_visit t v in
    let one = All-head (Done t) v vs a t (later_none t) in
    idle_then t u (fold with_visit u vs) one (idle_visits vs u (done_later t u (idle_later t u one) vs (All-tail (Done t) v vs a)))

grows_later : (t u : Trail) → Grows t u → Later t u
grows_later t u g = record {
  items = λ r h. subst (λ xs. In xs r) (sym g.items) (in_left t.items g.extra r h);
  names = g.names;
  keys = λ k h. ap (λ (f : SpecialKey → Bool). f k) g.keys ∙ h;
}

source_later : (m : ModuleValue) (t : Trail) → Later t (with_source m t)
source_later m t = record {
  items = λ r h. in_left t.items (places_in m (flat_map (reached_by t.keys m) (special_items m))) r h;
  names = λ n h. h;
  keys = λ k h. or_left (t.keys k) (is_some (special_at m.special_types k)) h;
}

items_grow : (m : ModuleValue) (ps : List ItemPlace) (t : Trail) → Grows t (fold (with_item m) t ps)
items_grow m [] t = grows_none t
items_grow m (p ∷ ps) t = let u = with_item m t p in grows_then t u (fold (with_item m) u ps) (item_grows m t p) (items_grow m ps u)

pub visit_later : (t : Trail) (v : Visit) → Later t (with_visit t v)
visit_later t v =
    let s = with_source v.source t in
    let u = fold (with_item v.source) s v.items in
    later_then t s (with_visit t v) (source_later v.source t) (grows_later s (with_visit t v) (grows_then s u (with_visit t v) (items_grow v.source v.items s) (functions_grow v.functions u)))

pub visits_later : (vs : List Visit) (t : Trail) → Later t (fold with_visit t vs)
visits_later [] t = later_none t
visits_later (v ∷ vs) t = let u = with_visit t v in later_then t u (fold with_visit u vs) (visit_later t v) (visits_later vs u)

-- the special types of what is visited are there, and the functions have names
pub record IsFit (v : Visit) : Type 0 where
  pub special : AreSpecial v.source
  pub named : All HasName v.functions

-- the visit of a trail adds nothing later
pub visit_done : (t : Trail) (v : Visit) → IsFit v → Done (with_visit t v) v
visit_done t v fit u l =
    let m = v.source in
    let es = special_entries m.special_types in
    let s = with_source m t in
    let x = places_in m (flat_map (reached_by s.keys m) v.items) in
    let i = with_more s x in
    let is : fold (with_item m) s v.items ≡ i = items_fold m v.items s in
    let a = fold with_function i v.functions in
    let after : with_visit t v ≡ a = ap (λ y. fold with_function y v.functions) is in
    let g = functions_grow v.functions i in
    let later : Later a u = subst (λ y. Later y u) after l in
    let own_keys : All (IsKey s.keys) es = All-weaker (λ (e : Entry). is_some (special_at m.special_types e.0) ≡ true) (IsKey s.keys) (λ e h. or_right (t.keys e.0) (is_some (special_at m.special_types e.0)) h) es (keys_own m fit.special) in
    let keys_a : a.keys ≡ s.keys = g.keys in
    let u_keys : All (IsKey u.keys) es = All-weaker (IsKey s.keys) (IsKey u.keys) (λ e h. later.keys e.0 (ap (λ (f : SpecialKey → Bool). f e.0) keys_a ∙ h)) es own_keys in
    -- the special types
    let s2 = with_source m u in
    let none : flat_map (reached_by u.keys m) (special_items m) ≡ [] = none_reached u.keys m es (each_there u.keys es u_keys) in
    let s2_items : s2.items ≡ u.items = ap (λ ps. u.items ++ places_in m ps) none ∙ append-nil u.items in
    let s2_keys : All (IsKey s2.keys) es = All-weaker (IsKey u.keys) (IsKey s2.keys) (λ e h. or_left (u.keys e.0) (is_some (special_at m.special_types e.0)) h) es u_keys in
    -- the items
    let y = places_in m (flat_map (reached_by s2.keys m) v.items) in
    let i2 = with_more s2 y in
    let is2 : fold (with_item m) s2 v.items ≡ i2 = items_fold m v.items s2 in
    let same : y ≡ x = ap (places_in m) (same_reached s2.keys s.keys m s2_keys own_keys v.items) in
    let x_in : All (In u.items) x = All-weaker (In x) (In u.items) (λ r h. later.items r (subst (λ xs. In xs r) (sym g.items) (in_left i.items g.extra r (in_right s.items x r h)))) x (all_in x) in
    let y_in : All (In u.items) y = subst (All (In u.items)) (sym same) x_in in
    -- the functions
    let known : All (Known u) v.functions = All-weaker (Known a) (Known u) (λ r h. later.names r.function.0.name h) v.functions (all_known v.functions i fit.named) in
    let again : fold with_function i2 v.functions ≡ i2 = known_again v.functions i2 known in
    let done : with_visit u v ≡ i2 = ap (λ z. fold with_function z v.functions) is2 ∙ again in
    let u_key = λ (k : SpecialKey) (e : is_some (special_at m.special_types k) ≡ true). later.keys k (ap (λ (f : SpecialKey → Bool). f k) keys_a ∙ or_right (t.keys k) (is_some (special_at m.special_types k)) e) in
    let idle : IsIdle u i2 = record {
      extra = y;
      items = ap (λ xs. xs ++ y) s2_items;
      old = y_in;
      names = λ n. refl;
      keys = λ k. same_bool (u.keys k || is_some (special_at m.special_types k)) (u.keys k) (λ h. ⊎_elim (λ e. e) (λ e. u_key k e) (or_either (u.keys k) (is_some (special_at m.special_types k)) h)) (λ h. or_left (u.keys k) (is_some (special_at m.special_types k)) h);
    } in
    subst (IsIdle u) (sym done) idle

pub visits_done : (vs : List Visit) (t : Trail) → All IsFit vs → All (Done (fold with_visit t vs)) vs
visits_done [] t a = All-nil (Done t)
visits_done (v ∷ vs) t a =
    let u = with_visit t v in
    let w = fold with_visit u vs in
    All-cons (Done w) v vs (λ y l. visit_done t v (All-head IsFit v vs a) y (later_then u w y (visits_later vs u) l)) (visits_done vs u (All-tail IsFit v vs a))
