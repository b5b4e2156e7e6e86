-- Places of items by their names, and what is linked at them.
use Rattle.std.proofs.Common.{◌≡◌, ℕ, zero, suc, ◌+◌, ◌<◌, List, [], ◌∷◌, ◌++◌, length, map, map-id, append-nil, Bool, true, false, ◌||◌, ◌&&◌, if◌then◌else◌, Some, None, option_map, slice_get, get_or, refl, sym, ap, subst, ◌∙◌, All, Ordering, Less, Equal, Greater, bytes_eq, arith}
use Rattle.std.proofs.lemmas.Bool.Decides.{nat_tests}
use Rattle.std.proofs.lemmas.Cmp.{nat_cmp_total}
use Rattle.std.proofs.lemmas.List.Elements.{All-append, All-from_get_or, All-map}
use Rattle.std.proofs.lemmas.List.FromFn.{filter_of_map_range_with_len_more, length-range_with_len, get_or-range_with_len}
use Rattle.std.proofs.lemmas.List.{length-map}
use Rattle.std.proofs.lemmas.Option.{slice_get-map}
use Rattle.std.proofs.lemmas.List.Kept.{IsStrictlyIncreasing-filter}
use Rattle.std.proofs.lemmas.Map.Keys.{sorted_from_strictly_increasing}
use Rattle.std.proofs.lemmas.Map.Lookups.{exact_unsigned, btree_set_from_contains}
use Rattle.std.proofs.lemmas.Map.Views.{any-filter_same}
use Rattle.std.specs.BTreeMap.{is_at}
use Rattle.std.specs.BTreeSet.{insert_key}
use Rattle.std.specs.List.{list_any, filter, flat_map, range_with_len, AllByRecursion}
use Rattle.std.specs.List.Sorted.{IsStrictlySortedBy, IsStrictlyIncreasing}
use Rattle.std.specs.Cmp.{nat_cmp_is}
use Rattle.std.specs.Ordering.{nat_cmp, is_eq, match_ordering, ordering_reverse}
use Rattle.std.specs.Option.{option_flatten}
use Rattle.std.proofs.lemmas.Slice.Eq.{bytes_eq-Decides}
use Rattle.naga_oil_form.specs.ItemForm.{IsThere}
use Rattle.naga_oil_ir.specs.ModuleValue.{module_value}
use Rattle.naga_oil_ir.specs.Rows.{Text}
use Rattle.naga_oil_ir.specs.declared.module.Module.{Module}
use Rattle.naga_oil_ir.specs.declared.names.ItemPlace.{ItemPlace}
use Rattle.naga_oil_ir.specs.declared.names.ItemPlace.TheVariants.{TypeItem, ConstantItem, OverrideItem, GlobalItem}
use Rattle.naga_oil_words.specs.Texts.{in_order, is_among}
use Rattle.naga_oil_link.specs.BuiltModule.{BuiltModule}
use Rattle.naga_oil_link.specs.ByName.{text_at, with_places, places_where, places_named, is_name}
use Rattle.naga_oil_link.specs.Linked.{Asked, is_wanted, is_wanted_function, passes, overriding_names}
use Rattle.naga_oil_link.specs.Places.{places_from_first, places_of}
use Rattle.naga_oil_link.proofs.NamesLemmas.{or_last, or_twice, or_between, among-in_order}

-- ---- numbers in order
all_inserted : (P : ℕ → Type 0) (ks : List ℕ) (k : ℕ) → AllByRecursion P ks → P k → AllByRecursion P (insert_key nat_cmp ks k)
all_inserted P [] k h p = (p, tt)
all_inserted P (x ∷ xs) k h p =
    elim (nat_cmp k x) as (λ o. AllByRecursion P (match_ordering o (k ∷ x ∷ xs) (x ∷ xs) (x ∷ insert_key nat_cmp xs k))) [ Less ↦ (p, h) | Equal ↦ h | Greater ↦ (h.0, all_inserted P xs k h.1 p) ]

all_above : (k x : ℕ) (xs : List ℕ) → nat_cmp k x ≡ Less → AllByRecursion (λ y. nat_cmp x y ≡ Less) xs → AllByRecursion (λ y. nat_cmp k y ≡ Less) xs
all_above k x [] e h = tt
all_above k x (y ∷ ys) e h = (nat_cmp_total.trans k x y e h.0, all_above k x ys e h.1)

sorted_insert : (ks : List ℕ) (k : ℕ) → IsStrictlySortedBy nat_cmp ks → IsStrictlySortedBy nat_cmp (insert_key nat_cmp ks k)
unfolding IsStrictlySortedBy
sorted_insert [] k h = (tt, tt)
sorted_insert (x ∷ xs) k h =
    elim (nat_cmp k x) as (λ o. nat_cmp k x ≡ o → IsStrictlySortedBy nat_cmp (match_ordering o (k ∷ x ∷ xs) (x ∷ xs) (x ∷ insert_key nat_cmp xs k))) [
      | Less ↦ λ e. ((e, all_above k x xs e h.0), h)
      | Equal ↦ λ e. h
      | Greater ↦ λ e.
          let below : nat_cmp x k ≡ Less = nat_cmp_total.antisymm x k ∙ ap ordering_reverse e in
          (all_inserted (λ y. nat_cmp x y ≡ Less) xs k h.0 below, sorted_insert xs k h.1)
    ] refl

pub sorted_with : (ks js : List ℕ) → IsStrictlySortedBy nat_cmp ks → IsStrictlySortedBy nat_cmp (with_places ks js)
sorted_with ks [] h = h
sorted_with ks (j ∷ js) h = sorted_with (insert_key nat_cmp ks j) js (sorted_insert ks j h)

-- ---- which numbers are among others
abbrev has : List ℕ → ℕ → Bool
has ks q = list_any (is_at (nat_cmp q)) ks

has-insert : (ks : List ℕ) (k q : ℕ) → has (insert_key nat_cmp ks k) q ≡ (has ks q || is_eq (nat_cmp q k))
has-insert [] k q = or_last (is_eq (nat_cmp q k)) false
has-insert (x ∷ xs) k q = by (nat_cmp k x) refl (has-insert xs k q)
  where
    by : (o : Ordering) → nat_cmp k x ≡ o → has (insert_key nat_cmp xs k) q ≡ (has xs q || is_eq (nat_cmp q k)) → has (match_ordering o (k ∷ x ∷ xs) (x ∷ xs) (x ∷ insert_key nat_cmp xs k)) q ≡ (has (x ∷ xs) q || is_eq (nat_cmp q k))
    by Less e rest = or_last (is_eq (nat_cmp q k)) (has (x ∷ xs) q)
    by Equal e rest = or_twice (is_eq (nat_cmp q x)) (has xs q) ∙ ap (λ y. has (x ∷ xs) q || is_eq (nat_cmp q y)) (sym (exact_unsigned k x e))
    by Greater e rest = ap (λ b. is_eq (nat_cmp q x) || b) rest ∙ or_between (is_eq (nat_cmp q x)) (has xs q) (is_eq (nat_cmp q k))

has-with : (ks js : List ℕ) (q : ℕ) → has (with_places ks js) q ≡ (has ks q || has js q)
has-with ks [] q = or_last false (has ks q)
has-with ks (j ∷ js) q = has-with (insert_key nat_cmp ks j) js q ∙ ap (λ b. b || has js q) (has-insert ks j q) ∙ sym (or_between (has ks q) (is_eq (nat_cmp q j)) (has js q))

has-append : (ks js : List ℕ) (q : ℕ) → has (ks ++ js) q ≡ (has ks q || has js q)
has-append [] js q = refl
has-append (k ∷ ks) js q = ap (λ b. is_eq (nat_cmp q k) || b) (has-append ks js q) ∙ or_between (is_eq (nat_cmp q k)) (has ks q) (has js q)

-- ---- numbers that pass a test
abbrev below : (ℕ → Bool) → ℕ → List ℕ
below p n = filter p (range_with_len 0 n)

range_rises : (a n : ℕ) → IsStrictlyIncreasing (range_with_len a n)
range_rises a n k h =
    let long : length (range_with_len a n) ≡ n = length-range_with_len a n in
    let here : get_or (range_with_len a n) k 0 ≡ a + k = get_or-range_with_len a n k 0 (omega (arith, long)) in
    let next : get_or (range_with_len a n) (k + 1) 0 ≡ a + (k + 1) = get_or-range_with_len a n (k + 1) 0 (omega (arith, long)) in
    omega arith

nat_same : (q k : ℕ) → is_eq (nat_cmp q k) ≡ true → q ≡ k
nat_same q k e = grind (arith, nat_tests)

same_test : (p : ℕ → Bool) (q k : ℕ) → is_eq (nat_cmp q k) ≡ true → p k ≡ p q
same_test p q k e = ap p (sym (nat_same q k e))

has-below : (p : ℕ → Bool) (n q : ℕ) → has (below p n) q ≡ (p q && has (range_with_len 0 n) q)
has-below p n q = any-filter_same (is_at (nat_cmp q)) p (p q) (same_test p q) (range_with_len 0 n)

pub sorted_below : (p : ℕ → Bool) (n : ℕ) → IsStrictlySortedBy nat_cmp (below p n)
sorted_below p n = sorted_from_strictly_increasing (below p n) (IsStrictlyIncreasing-filter p (range_with_len 0 n) (range_rises 0 n))

-- sorted numbers are determined by which numbers are among them
same_numbers : (ks js : List ℕ) → IsStrictlySortedBy nat_cmp ks → IsStrictlySortedBy nat_cmp js → ((q : ℕ) → has ks q ≡ has js q) → ks ≡ js
same_numbers ks js s t h = btree_set_from_contains nat_cmp_total (record { keys = ks }) (record { keys = js }) s t h exact_unsigned

or_and : (a b c : Bool) → ((a && c) || (b && c)) ≡ ((a || b) && c)
or_and true true true = refl
or_and true true false = refl
or_and true false true = refl
or_and true false false = refl
or_and false true true = refl
or_and false true false = refl
or_and false false true = refl
or_and false false false = refl

-- the numbers below n that pass one of some tests
has-each : {X : Type 0} (p : X → ℕ → Bool) (n q : ℕ) (xs : List X) → has (flat_map (λ x. below (p x) n) xs) q ≡ (list_any (λ x. p x q) xs && has (range_with_len 0 n) q)
has-each p n q [] = refl
has-each p n q (x ∷ xs) = has-append (below (p x) n) (flat_map (λ x. below (p x) n) xs) q ∙ (λ i. has-below (p x) n q i || has-each p n q xs i) ∙ or_and (p x q) (list_any (λ x. p x q) xs) (has (range_with_len 0 n) q)

-- numbers that pass a test, with those that pass another
pub below_each : {X : Type 0} (t : ℕ → Bool) (p : X → ℕ → Bool) (n : ℕ) (xs : List X) → with_places (below t n) (flat_map (λ x. below (p x) n) xs) ≡ below (λ q. t q || list_any (λ x. p x q) xs) n
below_each t p n xs =
    same_numbers (with_places (below t n) (flat_map (λ x. below (p x) n) xs)) (below (λ q. t q || list_any (λ x. p x q) xs) n) (sorted_with (below t n) (flat_map (λ x. below (p x) n) xs) (sorted_below t n)) (sorted_below (λ q. t q || list_any (λ x. p x q) xs) n)
    (λ q. has-with (below t n) (flat_map (λ x. below (p x) n) xs) q ∙ (λ i. has-below t n q i || has-each p n q xs i) ∙ or_and (t q) (list_any (λ x. p x q) xs) (has (range_with_len 0 n) q) ∙ sym (has-below (λ q. t q || list_any (λ x. p x q) xs) n q))

-- ---- places by names

pub flipped : (q n : List ℕ) → bytes_eq q n ≡ bytes_eq n q
flipped q n = by (bytes_eq q n) (bytes_eq n q) refl refl
  where
    by : (a b : Bool) → bytes_eq q n ≡ a → bytes_eq n q ≡ b → a ≡ b
    by true true e f = refl
    by false false e f = refl
    by true false e f = sym ((bytes_eq-Decides n q).1 (sym ((bytes_eq-Decides q n).0 e))) ∙ f
    by false true e f = sym e ∙ (bytes_eq-Decides q n).1 (sym ((bytes_eq-Decides n q).0 f))

one_of : (names : List (List ℕ)) (x : Text) → list_any (λ q. is_name q x) names ≡ passes (is_among names) x
one_of [] None = refl
one_of (q ∷ qs) None = one_of qs None
one_of [] (Some n) = refl
one_of (q ∷ qs) (Some n) = λ i. flipped q n i || one_of qs (Some n) i

-- places that pass a test, with those that an index has for others
pub with_named : (names : List Text) (index : List ℕ → List ℕ) (t : Text → Bool) (asked : List (List ℕ)) → ((q : List ℕ) → index q ≡ places_where (is_name q) names) → with_places (places_where t names) (flat_map index asked) ≡ places_where (λ n. t n || passes (is_among asked) n) names
with_named names index t asked h =
    (λ i. with_places (places_where t names) (flat_map (λ q. h q i) asked))
    ∙ below_each (λ k. t (text_at names k)) (λ q k. is_name q (text_at names k)) (length names) asked
    ∙ (λ i. below (λ k. t (text_at names k) || one_of asked (text_at names k) i) (length names))

none_pass : (ks : List ℕ) → filter (λ k. false) ks ≡ []
none_pass [] = refl
none_pass (k ∷ ks) = none_pass ks

-- the places that an index has for some names
pub only_named : (names : List Text) (index : List ℕ → List ℕ) (asked : List (List ℕ)) → ((q : List ℕ) → index q ≡ places_where (is_name q) names) → with_places [] (flat_map index asked) ≡ places_where (passes (is_among asked)) names
only_named names index asked h = ap (λ ks. with_places ks (flat_map index asked)) (sym (none_pass (range_with_len 0 (length names)))) ∙ with_named names index (λ n. false) asked h

-- all places
pub every_place : (names : List Text) → with_places [] (range_with_len 0 (length names)) ≡ places_where (λ n. true) names
unfolding IsStrictlySortedBy
every_place names =
    let all = range_with_len 0 (length names) in
    same_numbers (with_places [] all) (below (λ k. true) (length names)) (sorted_with [] all tt) (sorted_below (λ k. true) (length names)) (λ q. has-with [] all q ∙ sym (has-below (λ k. true) (length names) q))

-- one more place
pub place_more : (p : ℕ → Bool) (n : ℕ) → below p (n + 1) ≡ below p n ++ (if p n then n ∷ [] else [])
place_more p n =
    ap (filter p) (sym (map-id (range_with_len 0 (n + 1)))) ∙ filter_of_map_range_with_len_more p (λ k. k) 0 n n (omega arith) ∙ ap (λ ks. filter p ks ++ (if p n then n ∷ [] else [])) (map-id (range_with_len 0 n))

-- ---- places that are added one after another

-- a place above the others is added at the end
put_last : (p : ℕ → Bool) (a n k : ℕ) → a + n ≡ k → insert_key nat_cmp (filter p (range_with_len a n)) k ≡ filter p (range_with_len a n) ++ k ∷ []
put_last p a zero k e = refl
put_last p a (suc n) k e = by (p a) (put_last p (a + 1) n k (omega arith)) (nat_cmp_is k a Greater (omega arith))
  where
    by : (b : Bool) → insert_key nat_cmp (filter p (range_with_len (a + 1) n)) k ≡ filter p (range_with_len (a + 1) n) ++ k ∷ [] → Greater ≡ nat_cmp k a → insert_key nat_cmp (if b then a ∷ filter p (range_with_len (a + 1) n) else filter p (range_with_len (a + 1) n)) k ≡ (if b then a ∷ filter p (range_with_len (a + 1) n) else filter p (range_with_len (a + 1) n)) ++ k ∷ []
    by true rest above = sym (ap (λ o. match_ordering o (k ∷ a ∷ filter p (range_with_len (a + 1) n)) (a ∷ filter p (range_with_len (a + 1) n)) (a ∷ insert_key nat_cmp (filter p (range_with_len (a + 1) n)) k)) above) ∙ ap (λ ks. a ∷ ks) rest
    by false rest above = rest

-- the places before an end whose names pass a test
abbrev pub places_before : (Text → Bool) → List Text → ℕ → List ℕ
places_before test names n = below (λ k. test (text_at names k)) n

-- a place is added if its name passes, and else not
pub place_put : (test : Text → Bool) (names : List Text) (n : ℕ) (before : List ℕ) → test (text_at names n) ≡ true → before ≡ places_before test names n → insert_key nat_cmp before n ≡ places_before test names (n + 1)
place_put test names n before h e =
    let p = λ (k : ℕ). test (text_at names k) in
    ap (λ ks. insert_key nat_cmp ks n) e ∙ put_last p 0 n n (omega arith) ∙ ap (λ b. below p n ++ (if b then n ∷ [] else [])) (sym h) ∙ sym (place_more p n)

pub place_left : (test : Text → Bool) (names : List Text) (n : ℕ) (before : List ℕ) → test (text_at names n) ≡ false → before ≡ places_before test names n → before ≡ places_before test names (n + 1)
place_left test names n before h e =
    let p = λ (k : ℕ). test (text_at names k) in
    e ∙ sym (append-nil (below p n)) ∙ ap (λ b. below p n ++ (if b then n ∷ [] else [])) (sym h) ∙ sym (place_more p n)

-- the name at a place in a list
pub text_there : {X : Type 0} (name : X → Text) (xs : List X) (k : ℕ) (x : X) → slice_get xs k ≡ Some x → text_at (map name xs) k ≡ name x
text_there name xs k x at = ap option_flatten (slice_get-map name xs k ∙ ap (option_map name) at)

-- the name past the end of a list
pub text_past : {X : Type 0} (name : X → Text) (xs : List X) (k : ℕ) → slice_get xs k ≡ None → text_at (map name xs) k ≡ None
text_past name xs k past = ap option_flatten (slice_get-map name xs k ∙ ap (option_map name) past)

-- ---- requested names

pub some_wanted : (names : List Text) (asked : List (List ℕ)) → with_places [] (flat_map (places_named names) asked) ≡ places_where (is_wanted (Some (in_order asked))) names
some_wanted names asked = only_named names (places_named names) asked (λ q. refl) ∙ (λ i. places_where (passes (λ n. sym (among-in_order asked n) i)) names)

-- requested names, and those of the functions that override others
pub functions_wanted : (b : BuiltModule) (asked : Asked) (names : List Text) (others : List (List ℕ)) → others ≡ in_order (overriding_names b) → with_places (places_where (is_wanted asked) names) (flat_map (places_named names) others) ≡ places_where (is_wanted_function b asked) names
functions_wanted b asked names others same =
    (λ i. with_places (places_where (is_wanted asked) names) (flat_map (places_named names) (same i)))
    ∙ with_named names (places_named names) (is_wanted asked) (in_order (overriding_names b)) (λ q. refl)
    ∙ (λ i. places_where (λ n. is_wanted asked n || passes (λ m. among-in_order (overriding_names b) m i) n) names)

-- ---- places are there
kind_there : (m : Module) (place : ℕ → ItemPlace) (n count : ℕ) → n ≡ count → ((k : ℕ) → k < count → IsThere m (place k)) → All (IsThere m) (places_from_first place n)
kind_there m place n count same h =
    All-map (IsThere m) place (range_with_len 0 n) (All-from_get_or (λ k. IsThere m (place k)) (range_with_len 0 n) 0 (λ i l.
    let long : length (range_with_len 0 n) ≡ n = length-range_with_len 0 n in
    let at : get_or (range_with_len 0 n) i 0 ≡ 0 + i = get_or-range_with_len 0 n i 0 (omega arith) in
    let is : get_or (range_with_len 0 n) i 0 ≡ i = omega arith in
    subst (λ (k : ℕ). IsThere m (place k)) (sym is) (h i (omega arith))))

-- the places of a module's items
pub all_there : (m : Module) → All (IsThere m) (places_of (module_value m))
all_there m =
    let v = module_value m in
    let ts = places_from_first TypeItem (length v.types) in
    let cs = places_from_first ConstantItem (length v.constants) in
    let os = places_from_first OverrideItem (length v.overrides) in
    let gs = places_from_first GlobalItem (length v.global_variables) in
    All-append (IsThere m) (ts ++ cs ++ os) gs (All-append (IsThere m) (ts ++ cs) os (All-append (IsThere m) ts cs
    (kind_there m TypeItem (length v.types) (length m.types) (length-map m.types _) (λ k h. h))
    (kind_there m ConstantItem (length v.constants) (length m.constants) (length-map m.constants _) (λ k h. h)))
    (kind_there m OverrideItem (length v.overrides) (length m.overrides) (length-map m.overrides _) (λ k h. h)))
    (kind_there m GlobalItem (length v.global_variables) (length m.global_variables) (length-map m.global_variables _) (λ k h. h))
