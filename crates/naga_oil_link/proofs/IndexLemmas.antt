-- Places sorted by their names: what a sort returns, and what a search finds.
use Rattle.std.proofs.Common.{◌≡◌, ℕ, zero, suc, ◌+◌, ◌-◌, ◌<◌, ◌≤◌, List, [], ◌∷◌, length, drop, Bool, true, false, not, ◌&&◌, ◌++◌, if◌then◌else◌, is_some, Option, Some, None, option_map, get_or, refl, sym, ap, ◌∙◌, Ordering, Less, Equal, Greater, arith}
use Rattle.std.proofs.lemmas.Bool.{false≢true, true≢false}
use Rattle.std.proofs.lemmas.List.MinMax.{ranks_by}
use Rattle.std.proofs.lemmas.List.Sorted.{sorted_far}
use Rattle.std.proofs.lemmas.Grind.{get_or_default_zero}
use Rattle.std.proofs.lemmas.List.{get_or-drop, length-drop}
use Rattle.std.proofs.lemmas.Cmp.{nat_list_cmp_total}
use Rattle.std.proofs.lemmas.Map.Text.{is_eq-slice_cmp}
use Rattle.std.proofs.lemmas.Slice.Eq.{bytes_eq-Decides}
use Rattle.std.specs.Cmp.{IsStrictWeakOrder, IsTotalOrder}
use Rattle.std.specs.Cmp.Lexicographic.{options_total}
use Rattle.std.specs.List.{filter, flat_map, range_with_len}
use Rattle.std.specs.List.Sorted.{IsSortedBy, IsStableBy, IsPartitionedBy}
use Rattle.std.specs.Ordering.{is_eq, is_lt, ordering_reverse}
use Rattle.naga_oil_ir.specs.Rows.{Text}
use Rattle.naga_oil_link.specs.ByName.{text_at, places_where, places_named, is_name, compare_names, stands_before, ByName, IsIndexOf, IsReached, IsStart, MayStart}
use Rattle.naga_oil_link.proofs.ByNameLemmas.{flipped, place_more, places_before}

-- ---- names in order

names_total : IsTotalOrder compare_names
names_total = options_total nat_list_cmp_total

-- any names
texts_rank : IsStrictWeakOrder (λ x y. is_lt (compare_names x y))
texts_rank = ranks_by names_total (λ x. x)

-- those at places
pub places_rank : (names : List Text) → IsStrictWeakOrder (stands_before names)
places_rank names = ranks_by names_total (text_at names)

-- a name is determined by the order
pub same_name : (q : List ℕ) (x : Text) → is_eq (compare_names x (Some q)) ≡ is_name q x
same_name q None = refl
same_name q (Some n) = is_eq-slice_cmp n q ∙ flipped n q

pub name_is : (q : List ℕ) (x : Text) → is_name q x ≡ true → x ≡ Some q
name_is q None e = absurd (false≢true e)
name_is q (Some n) e = ap Some (sym ((bytes_eq-Decides q n).0 e))

one_ties : (o : Ordering) → (not (is_lt (ordering_reverse o)) && not (is_lt o)) ≡ is_eq o
one_ties Less = refl
one_ties Equal = refl
one_ties Greater = refl

-- names that tie with a name are this name
tied : (q : List ℕ) (x : Text) → (not (is_lt (compare_names (Some q) x)) && not (is_lt (compare_names x (Some q)))) ≡ is_name q x
tied q x = ap (λ o. not (is_lt o) && not (is_lt (compare_names x (Some q)))) (names_total.antisymm (Some q) x) ∙ one_ties (compare_names x (Some q)) ∙ same_name q x

-- ---- what a sort returns

first_passes : {X : Type 0} (p : X → Bool) (xs : List X) (k : X) (rest : List X) → filter p xs ≡ k ∷ rest → p k ≡ true
first_passes p [] k rest e =
    let same : 0 ≡ suc (length rest) = ap length e in
    absurd (omega (arith, same))
first_passes p (x ∷ xs) k rest e = by (p x) refl e (first_passes p xs k rest)
  where
    by : (b : Bool) → p x ≡ b → (if b then x ∷ filter p xs else filter p xs) ≡ k ∷ rest → (filter p xs ≡ k ∷ rest → p k ≡ true) → p k ≡ true
    by true h f more = ap p (sym (ap (λ ys. get_or ys 0 k) f)) ∙ h
    by false h f more = more f

-- a test after one that it implies
filter_twice : {X : Type 0} (s p : X → Bool) → ((x : X) → p x ≡ true → s x ≡ true) → (xs : List X) → filter p (filter s xs) ≡ filter p xs
filter_twice s p h [] = refl
filter_twice s p h (x ∷ xs) = by (s x) (p x) refl refl (filter_twice s p h xs)
  where
    by : (a b : Bool) → s x ≡ a → p x ≡ b → filter p (filter s xs) ≡ filter p xs → filter p (if a then x ∷ filter s xs else filter s xs) ≡ (if b then x ∷ filter p xs else filter p xs)
    by true true e f rest = ap (λ b. if b then x ∷ filter p (filter s xs) else filter p (filter s xs)) f ∙ ap (λ ys. x ∷ ys) rest
    by true false e f rest = ap (λ b. if b then x ∷ filter p (filter s xs) else filter p (filter s xs)) f ∙ rest
    by false true e f rest = absurd (false≢true (sym e ∙ h x f))
    by false false e f rest = rest

-- the places of a name stay in their order, if the name is at a place
kept : (names : List Text) (places index : List ℕ) (q : List ℕ) (k : ℕ) → IsStableBy (stands_before names) places index → is_name q (text_at names k) ≡ true → filter (λ j. is_name q (text_at names j)) index ≡ filter (λ j. is_name q (text_at names j)) places
kept names places index q k stable e =
    let is : text_at names k ≡ Some q = name_is q (text_at names k) e in
    let passes : (j : ℕ) → (not (stands_before names k j) && not (stands_before names j k)) ≡ is_name q (text_at names j) = λ j. ap (λ x. not (is_lt (compare_names x (text_at names j))) && not (is_lt (compare_names (text_at names j) x))) is ∙ tied q (text_at names j) in
    (λ i. filter (λ j. sym (passes j) i) index) ∙ stable k ∙ (λ i. filter (λ j. passes j i) places)

-- the places of any name stay in their order
same_places : (names : List Text) (places index : List ℕ) (q : List ℕ) → IsStableBy (stands_before names) places index → filter (λ j. is_name q (text_at names j)) index ≡ filter (λ j. is_name q (text_at names j)) places
same_places names places index q stable = by (filter p index) (filter p places) refl refl
  where
    p : ℕ → Bool
    p j = is_name q (text_at names j)

    by : (ys zs : List ℕ) → filter p index ≡ ys → filter p places ≡ zs → ys ≡ zs
    by [] [] e f = refl
    by (k ∷ r) zs e f = sym e ∙ kept names places index q k stable (first_passes p index k r e) ∙ f
    by [] (k ∷ r) e f = sym e ∙ kept names places index q k stable (first_passes p places k r f) ∙ f

named_passes : (q : List ℕ) (x : Text) → is_name q x ≡ true → is_some x ≡ true
named_passes q None e = e
named_passes q (Some n) e = refl

-- ---- which have names

pub same_some : {X Y : Type 0} (f : X → Y) (x : Option X) → is_some (option_map f x) ≡ is_some x
same_some f None = refl
same_some f (Some x) = refl

-- one more place
pub named_more : (names : List Text) (n : ℕ) (before : List ℕ) (b : Bool) → is_some (text_at names n) ≡ b → before ≡ places_before is_some names n → before ++ (if b then n ∷ [] else []) ≡ places_before is_some names (n + 1)
named_more names n before b h e =
    (λ i. e i ++ (if sym h i then n ∷ [] else [])) ∙ sym (place_more (λ k. is_some (text_at names k)) n)

-- the places of names, sorted by them
pub index_sorted : (names : List Text) (places : List ℕ) (index : ByName) → places ≡ places_where is_some names → IsSortedBy (stands_before names) index.items → IsStableBy (stands_before names) places index.items → IsIndexOf names index
index_sorted names places index are sorted stable = record {
  sorted = sorted;
  each = λ q.
      same_places names places index.items q stable
      ∙ ap (filter (λ k. is_name q (text_at names k))) are
      ∙ filter_twice (λ k. is_some (text_at names k)) (λ k. is_name q (text_at names k)) (λ k. named_passes q (text_at names k)) (range_with_len 0 (length names));
}

-- ---- what a search finds

-- names that are less than one, then the others
pub before_partitioned : (names : List Text) (places : List ℕ) (q : List ℕ) → IsSortedBy (stands_before names) places → IsPartitionedBy (λ k. is_lt (compare_names (text_at names k) (Some q))) places
before_partitioned names places q sorted i j d le below before =
    by (is_lt (compare_names (text_at names (get_or places i d)) (Some q))) refl
  where
    by : (b : Bool) → is_lt (compare_names (text_at names (get_or places i d)) (Some q)) ≡ b → b ≡ true
    by true e = refl
    by false e = sym (texts_rank.chain (text_at names (get_or places j d)) (text_at names (get_or places i d)) (Some q) (sorted_far (stands_before names) (places_rank names) places sorted i j d le below) e) ∙ before

-- no name is less than itself
irreflexive : (q : List ℕ) → is_lt (compare_names (Some q) (Some q)) ≡ false
irreflexive q = by (is_lt (compare_names (Some q) (Some q))) refl
  where
    by : (b : Bool) → is_lt (compare_names (Some q) (Some q)) ≡ b → b ≡ false
    by false e = refl
    by true e = sym e ∙ texts_rank.one_way (Some q) (Some q) e

-- a name that is less than another isn't the other
pub before_fails : (q : List ℕ) (x : Text) → is_lt (compare_names x (Some q)) ≡ true → is_name q x ≡ false
before_fails q x e = sym (same_name q x) ∙ by (compare_names x (Some q)) e
  where
    by : (o : Ordering) → is_lt o ≡ true → is_eq o ≡ false
    by Less h = refl
    by Equal h = absurd (false≢true h)
    by Greater h = refl

-- a name that isn't less than a greater name than another isn't the other
after_fails : (q : List ℕ) (x y : Text) → is_lt (compare_names x (Some q)) ≡ false → is_eq (compare_names x (Some q)) ≡ false → is_lt (compare_names y x) ≡ false → is_name q y ≡ false
after_fails q x y a b c = by (is_name q y) refl
  where
    greater : (o : Ordering) → is_lt o ≡ false → is_eq o ≡ false → is_lt (ordering_reverse o) ≡ true
    greater Less e f = absurd (true≢false e)
    greater Equal e f = absurd (true≢false f)
    greater Greater e f = refl

    by : (r : Bool) → is_name q y ≡ r → r ≡ false
    by false e = refl
    by true e =
        sym (greater (compare_names x (Some q)) a b)
        ∙ sym (ap is_lt (names_total.antisymm (Some q) x))
        ∙ ap (λ t. is_lt (compare_names t x)) (sym (name_is q y e))
        ∙ c

-- names that fail a test are left out
pub skip : {X : Type 0} (p : X → Bool) (xs : List X) (n : ℕ) → ((k : ℕ) (d : X) → k < n → k < length xs → p (get_or xs k d) ≡ false) → filter p (drop n xs) ≡ filter p xs
skip p [] zero h = refl
skip p [] (suc n) h = refl
skip p (x ∷ xs) zero h = refl
skip p (x ∷ xs) (suc n) h =
    skip p xs n (λ k d a b. h (suc k) d (omega arith) (omega arith))
    ∙ ap (λ b. if b then x ∷ filter p xs else filter p xs) (sym (h 0 x (omega arith) (omega arith)))

pub none_pass_from : {X : Type 0} (p : X → Bool) (xs : List X) (n : ℕ) → ((k : ℕ) (d : X) → n ≤ k → k < length xs → p (get_or xs k d) ≡ false) → filter p (drop n xs) ≡ []
none_pass_from p [] zero h = refl
none_pass_from p [] (suc n) h = refl
none_pass_from p (x ∷ xs) (suc n) h = none_pass_from p xs n (λ k d a b. h (suc k) d (omega arith) (omega arith))
none_pass_from p (x ∷ xs) zero h =
    ap (λ b. if b then x ∷ filter p xs else filter p xs) (h 0 x (omega arith) (omega arith))
    ∙ none_pass_from p xs zero (λ k d a b. h (suc k) d (omega arith) (omega arith))

-- the first place of a name: names before it are less, and the others aren't
pub start_there : (names : List Text) (index : ByName) (q : List ℕ) (n : ℕ) → n ≤ length index.items → IsIndexOf names index → ((k : ℕ) (d : ℕ) → k < n → k < length index.items → is_lt (compare_names (text_at names (get_or index.items k d)) (Some q)) ≡ true) → ((k : ℕ) (d : ℕ) → n ≤ k → k < length index.items → is_lt (compare_names (text_at names (get_or index.items k d)) (Some q)) ≡ false) → IsStart names q index.items n
start_there names index q n le is before after =
    let long : length (drop n index.items) ≡ length index.items - n = length-drop n index.items in
    record {
      reached = record {
        within = le;
        from = λ k d a. ap (λ j. is_lt (compare_names (text_at names j) (Some q))) (get_or-drop n index.items k d) ∙ after (n + k) d (omega arith) (omega (arith, long));
        before = λ k e. texts_rank.one_way (text_at names (get_or index.items k 0)) (Some q) (before k 0 (omega (arith, e)) (omega (arith, e)));
      };
      named = skip (λ k. is_name q (text_at names k)) index.items n (λ k d a b. before_fails q (text_at names (get_or index.items k d)) (before k d a b)) ∙ is.each q;
    }

-- a place of a name after one with a lesser name
pub start_found : (names : List Text) (index : ByName) (q : List ℕ) (n : ℕ) → n < length index.items → IsIndexOf names index → is_eq (compare_names (text_at names (get_or index.items n 0)) (Some q)) ≡ true → ((k : ℕ) → k + 1 ≡ n → is_lt (compare_names (text_at names (get_or index.items k 0)) (Some q)) ≡ true) → IsStart names q index.items n
start_found names index q n below is same before =
    let xs = index.items in
    let here : text_at names (get_or xs n 0) ≡ Some q = name_is q (text_at names (get_or xs n 0)) (sym (same_name q (text_at names (get_or xs n 0))) ∙ same) in
    start_there names index q n (omega arith) is
    (λ k d a b.
    ap (λ j. is_lt (compare_names (text_at names j) (Some q))) (get_or_default_zero xs k d b)
    ∙ before_partitioned names xs q is.sorted k (n - 1) 0 (omega arith) (omega arith) (before (n - 1) (omega arith)))
    (λ k d a b.
    ap (λ j. is_lt (compare_names (text_at names j) (Some q))) (get_or_default_zero xs k d b)
    ∙ ap (λ t. is_lt (compare_names (text_at names (get_or xs k 0)) t)) (sym here)
    ∙ sorted_far (stands_before names) (places_rank names) xs is.sorted n k 0 a b)

-- the places of a name start where the name is and may start
pub start_there_is : (names : List Text) (index : ByName) (q : List ℕ) (n : ℕ) → n < length index.items → IsIndexOf names index → MayStart names index.items n → is_name q (text_at names (get_or index.items n 0)) ≡ true → IsStart names q index.items n
start_there_is names index q n below is may named =
    let here : text_at names (get_or index.items n 0) ≡ Some q = name_is q (text_at names (get_or index.items n 0)) named in
    start_found names index q n below is (same_name q (text_at names (get_or index.items n 0)) ∙ named) (λ k e. ap (λ t. is_lt (compare_names (text_at names (get_or index.items k 0)) t)) (sym here) ∙ may k e below)

-- after the last place of a name, the name is at no place
pub past_name : (names : List Text) (index : ByName) (q : List ℕ) (n i : ℕ) → IsIndexOf names index → IsReached names q index.items n → n ≤ i → i < length index.items → is_eq (compare_names (text_at names (get_or index.items i 0)) (Some q)) ≡ false → filter (λ k. is_name q (text_at names k)) (drop i index.items) ≡ []
past_name names index q n i is start le below other =
    let xs = index.items in
    let long : length (drop n xs) ≡ length xs - n = length-drop n xs in
    let far : n + (i - n) ≡ i = omega arith in
    let there : get_or (drop n xs) (i - n) 0 ≡ get_or xs i 0 = get_or-drop n xs (i - n) 0 ∙ ap (λ k. get_or xs k 0) far in
    let later : is_lt (compare_names (text_at names (get_or xs i 0)) (Some q)) ≡ false = ap (λ j. is_lt (compare_names (text_at names j) (Some q))) (sym there) ∙ start.from (i - n) 0 (omega (arith, long)) in
    none_pass_from (λ k. is_name q (text_at names k)) xs i (λ k d a b.
    ap (λ j. is_name q (text_at names j)) (get_or_default_zero xs k d b)
    ∙ after_fails q (text_at names (get_or xs i 0)) (text_at names (get_or xs k 0)) later other (sorted_far (stands_before names) (places_rank names) xs is.sorted i k 0 a b))

-- where a name is reached and another name stands, its places end: names before aren't greater, and that name is
pub ends_there : (names : List Text) (places : List ℕ) (q : List ℕ) (i : ℕ) → IsReached names q places i → (i < length places → is_eq (compare_names (text_at names (get_or places i 0)) (Some q)) ≡ false) → MayStart names places i
ends_there names places q i reached other k e below = by (is_lt (compare_names before here)) refl
  where
    before : Text
    before = text_at names (get_or places k 0)

    here : Text
    here = text_at names (get_or places i 0)

    not_less : is_lt (compare_names here (Some q)) ≡ false
    not_less =
        let none : i + 0 ≡ i = omega arith in
        let there : get_or (drop i places) 0 0 ≡ get_or places i 0 = get_or-drop i places 0 0 ∙ ap (λ k. get_or places k 0) none in
        let long : length (drop i places) ≡ length places - i = length-drop i places in
        ap (λ j. is_lt (compare_names (text_at names j) (Some q))) (sym there) ∙ reached.from 0 0 (omega (arith, long, below))

    following : is_lt (compare_names (Some q) here) ≡ true
    following = ap is_lt (names_total.antisymm (Some q) here) ∙ greater (compare_names here (Some q)) not_less (other below)
      where
        greater : (o : Ordering) → is_lt o ≡ false → is_eq o ≡ false → is_lt (ordering_reverse o) ≡ true
        greater Less a b = absurd (true≢false a)
        greater Equal a b = absurd (true≢false b)
        greater Greater a b = refl

    by : (b : Bool) → is_lt (compare_names before here) ≡ b → b ≡ true
    by true f = refl
    by false f = sym (texts_rank.chain (Some q) before here (reached.before k e) f) ∙ following

-- a name is reached after one of its places
pub reached_more : (names : List Text) (places : List ℕ) (q : List ℕ) (i : ℕ) → i < length places → IsReached names q places i → is_eq (compare_names (text_at names (get_or places i 0)) (Some q)) ≡ true → IsReached names q places (i + 1)
reached_more names places q i below reached same =
    let here : text_at names (get_or places i 0) ≡ Some q = name_is q (text_at names (get_or places i 0)) (sym (same_name q (text_at names (get_or places i 0))) ∙ same) in
    let long : length (drop (i + 1) places) ≡ length places - (i + 1) = length-drop (i + 1) places in
    let longer : length (drop i places) ≡ length places - i = length-drop i places in
    record {
      within = omega arith;
      from = λ k d a.
          let far : (i + 1) + k ≡ i + (k + 1) = omega arith in
          ap (λ j. is_lt (compare_names (text_at names j) (Some q))) (get_or-drop (i + 1) places k d ∙ ap (λ j. get_or places j d) far ∙ sym (get_or-drop i places (k + 1) d)) ∙ reached.from (k + 1) d (omega (arith, a, long, longer));
      before = λ k e.
          let one : k ≡ i = omega (arith, e) in
          ap (λ j. is_lt (compare_names (Some q) (text_at names (get_or places j 0)))) one ∙ ap (λ t. is_lt (compare_names (Some q) t)) here ∙ irreflexive q;
    }

-- an index of nothing has no places
pub nothing_named : (names : List Text) (index : ByName) → IsIndexOf names index → index.items ≡ [] → (asked : List (List ℕ)) → flat_map (places_named names) asked ≡ []
nothing_named names index is none [] = refl
nothing_named names index is none (q ∷ qs) =
    ap (λ ks. ks ++ flat_map (places_named names) qs) (sym (is.each q) ∙ ap (filter (λ k. is_name q (text_at names k))) none) ∙ nothing_named names index is none qs
