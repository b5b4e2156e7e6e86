-- Names in byte order: they are strictly sorted, and each is one of the given names.
use Rattle.std.proofs.Common.{◌≡◌, ℕ, zero, suc, ◌<◌, List, [], ◌∷◌, length, get_or, ◌⊎◌, inl, inr, refl, sym, ap, ◌∙◌, arith}
use Rattle.std.specs.declared.cmp.Ordering.{Ordering}
use Rattle.std.specs.declared.cmp.Ordering.TheVariants.{Less, Equal, Greater}
use Rattle.std.specs.Cmp.Lexicographic.{slice_cmp, nat_list_cmp_total}
use Rattle.std.specs.List.{fold, AllByRecursion, Contains}
use Rattle.std.specs.List.Sorted.{IsStrictlySortedBy}
use Rattle.std.specs.Ordering.{nat_cmp, match_ordering, ordering_reverse}
use Rattle.std.proofs.lemmas.Map.Lookups.{exact_bytes}
use Rattle.naga_oil_words.specs.Texts.{with_name, in_order}

abbrev order : List ℕ → List ℕ → Ordering
order a b = slice_cmp nat_cmp a b

-- ---- the order
all_inserted : (P : List ℕ → Type 0) (ks : List (List ℕ)) (k : List ℕ) → AllByRecursion P ks → P k → AllByRecursion P (with_name ks k)
all_inserted P [] k h p = (p, tt)
all_inserted P (x ∷ xs) k h p =
    elim (order k x) as (λ o. AllByRecursion P (match_ordering o (k ∷ x ∷ xs) (x ∷ xs) (x ∷ with_name xs k))) [ Less ↦ (p, h) | Equal ↦ h | Greater ↦ (h.0, all_inserted P xs k h.1 p) ]

all_above : (k x : List ℕ) (xs : List (List ℕ)) → order k x ≡ Less → AllByRecursion (λ y. order x y ≡ Less) xs → AllByRecursion (λ y. order k y ≡ Less) xs
all_above k x [] e h = tt
all_above k x (y ∷ ys) e h = (nat_list_cmp_total.trans k x y e h.0, all_above k x ys e h.1)

sorted_insert : (ks : List (List ℕ)) (k : List ℕ) → IsStrictlySortedBy (slice_cmp nat_cmp) ks → IsStrictlySortedBy (slice_cmp nat_cmp) (with_name ks k)
unfolding IsStrictlySortedBy
sorted_insert [] k h = (tt, tt)
sorted_insert (x ∷ xs) k h =
    elim (order k x) as (λ o. order k x ≡ o → IsStrictlySortedBy (slice_cmp nat_cmp) (match_ordering o (k ∷ x ∷ xs) (x ∷ xs) (x ∷ with_name xs k))) [
      | Less ↦ λ e. ((e, all_above k x xs e h.0), h)
      | Equal ↦ λ e. h
      | Greater ↦ λ e.
          let below : order x k ≡ Less = nat_list_cmp_total.antisymm x k ∙ ap ordering_reverse e in
          (all_inserted (λ y. order x y ≡ Less) xs k h.0 below, sorted_insert xs k h.1)
    ] refl

sorted_fold : (ks names : List (List ℕ)) → IsStrictlySortedBy (slice_cmp nat_cmp) ks → IsStrictlySortedBy (slice_cmp nat_cmp) (fold with_name ks names)
sorted_fold ks [] h = h
sorted_fold ks (name ∷ names) h = sorted_fold (with_name ks name) names (sorted_insert ks name h)

pub names_rise : (names : List (List ℕ)) → IsStrictlySortedBy (slice_cmp nat_cmp) (in_order names)
unfolding in_order IsStrictlySortedBy
names_rise names = sorted_fold [] names tt

-- ---- the members
abbrev Has : List (List ℕ) → List ℕ → Type 0
Has [] n = ⊥
Has (x ∷ xs) n = (x ≡ n) ⊎ Has xs n

has_new : (ks : List (List ℕ)) (k : List ℕ) → Has (with_name ks k) k
has_new [] k = inl refl
has_new (x ∷ xs) k =
    elim (order k x) as (λ o. order k x ≡ o → Has (match_ordering o (k ∷ x ∷ xs) (x ∷ xs) (x ∷ with_name xs k)) k) [
      | Less ↦ λ e. inl refl
      | Equal ↦ λ e. inl (sym (exact_bytes k x e))
      | Greater ↦ λ e. inr (has_new xs k)
    ] refl

has_old : (ks : List (List ℕ)) (k n : List ℕ) → Has ks n → Has (with_name ks k) n
has_old [] k n h = absurd h
has_old (x ∷ xs) k n h =
    elim (order k x) as (λ o. Has (match_ordering o (k ∷ x ∷ xs) (x ∷ xs) (x ∷ with_name xs k)) n) [
      | Less ↦ inr h
      | Equal ↦ h
      | Greater ↦ elim h as (λ _. Has (x ∷ with_name xs k) n) [ inl e ↦ inl e | inr r ↦ inr (has_old xs k n r) ]
    ]

has_either : (ks : List (List ℕ)) (k n : List ℕ) → Has (with_name ks k) n → Has ks n ⊎ (k ≡ n)
has_either [] k n h = elim h as (λ _. ⊥ ⊎ (k ≡ n)) [ inl e ↦ inr e | inr r ↦ absurd r ]
has_either (x ∷ xs) k n h =
    elim (order k x) as (λ o. Has (match_ordering o (k ∷ x ∷ xs) (x ∷ xs) (x ∷ with_name xs k)) n → Has (x ∷ xs) n ⊎ (k ≡ n)) [
      | Less ↦ λ g. elim g as (λ _. Has (x ∷ xs) n ⊎ (k ≡ n)) [ inl e ↦ inr e | inr r ↦ inl r ]
      | Equal ↦ λ g. inl g
      | Greater ↦ λ g. elim g as (λ _. Has (x ∷ xs) n ⊎ (k ≡ n)) [
        | inl e ↦ inl (inl e)
        | inr r ↦ elim (has_either xs k n r) as (λ _. Has (x ∷ xs) n ⊎ (k ≡ n)) [ inl s ↦ inl (inr s) | inr e ↦ inr e ]
      ]
    ] h

fold_old : (ks names : List (List ℕ)) (n : List ℕ) → Has ks n → Has (fold with_name ks names) n
fold_old ks [] n h = h
fold_old ks (name ∷ names) n h = fold_old (with_name ks name) names n (has_old ks name n h)

fold_new : (ks names : List (List ℕ)) (n : List ℕ) → Has names n → Has (fold with_name ks names) n
fold_new ks [] n h = absurd h
fold_new ks (name ∷ names) n h =
    elim h as (λ _. Has (fold with_name (with_name ks name) names) n) [
      | inl e ↦ fold_old (with_name ks name) names n (has_given ks name n e)
      | inr r ↦ fold_new (with_name ks name) names n r
    ]
  where
    has_given : (ks : List (List ℕ)) (k n : List ℕ) → k ≡ n → Has (with_name ks k) n
    has_given ks k n e = rw (← e) (has_new ks k)

fold_either : (ks names : List (List ℕ)) (n : List ℕ) → Has (fold with_name ks names) n → Has ks n ⊎ Has names n
fold_either ks [] n h = inl h
fold_either ks (name ∷ names) n h =
    elim (fold_either (with_name ks name) names n h) as (λ _. Has ks n ⊎ Has (name ∷ names) n) [
      | inl g ↦ elim (has_either ks name n g) as (λ _. Has ks n ⊎ Has (name ∷ names) n) [ inl r ↦ inl r | inr e ↦ inr (inl e) ]
      | inr r ↦ inr (inr r)
    ]

contains_from_has : (xs : List (List ℕ)) (n : List ℕ) → Has xs n → Contains xs n
contains_from_has [] n h = absurd h
contains_from_has (x ∷ xs) n h =
    elim h as (λ _. Contains (x ∷ xs) n) [
      | inl e ↦ (0, omega arith, e)
      | inr r ↦ let c = contains_from_has xs n r in (suc c.0, omega (arith, c.1), c.2)
    ]

has_from_place : (xs : List (List ℕ)) (k : ℕ) (n : List ℕ) → k < length xs → get_or xs k n ≡ n → Has xs n
has_from_place [] k n l e = absurd (omega arith)
has_from_place (x ∷ xs) zero n l e = inl e
has_from_place (x ∷ xs) (suc k) n l e = inr (has_from_place xs k n (omega arith) e)

pub names_stay : (names : List (List ℕ)) (n : List ℕ) → Contains names n → Contains (in_order names) n
unfolding in_order
names_stay names n c = contains_from_has (fold with_name [] names) n (fold_new [] names n (has_from_place names c.0 n c.1 c.2))

pub names_were : (names : List (List ℕ)) (n : List ℕ) → Contains (in_order names) n → Contains names n
unfolding in_order
names_were names n c =
    elim (fold_either [] names n (has_from_place (fold with_name [] names) c.0 n c.1 c.2)) as (λ _. Contains names n) [ inl r ↦ absurd r | inr r ↦ contains_from_has names n r ]
