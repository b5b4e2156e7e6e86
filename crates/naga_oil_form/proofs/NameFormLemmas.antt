-- Distinct names, found by a set that takes one name after the other.
use Rattle.std.proofs.Common.{◌≡◌, not, ◌<◌, zero, suc, length, take, get_or, arith, ℕ, Bool, false, true, List, [], ◌∷◌, ◌++◌, ◌||◌, map, nat_eq, refl, sym, ap, ◌∙◌, IsPermutation}
use Rattle.std.specs.List.{IsDistinct, AllByRecursion, list_any}
use Rattle.std.specs.Cmp.{IsEquivalence}
use Rattle.std.specs.Cmp.Lexicographic.{pointwise, nat_list_eq_equiv}
use Rattle.std.proofs.lemmas.List.Sorted.{list_any-IsPermutation}
use Rattle.std.proofs.lemmas.Map.Keys.{IsDistinct-push}

any_push : {X : Type 0} (p : X → Bool) (xs : List X) (x : X) → list_any p (x ∷ xs) ≡ list_any p (xs ++ x ∷ [])
any_push p [] x = refl
any_push p (y ∷ ys) x = swap (p x) (p y) (list_any p ys) ∙ ap (λ b. p y || b) (any_push p ys x)
  where
    swap : (a b c : Bool) → (a || (b || c)) ≡ (b || (a || c))
    swap true true c = refl
    swap true false c = refl
    swap false b c = refl

any_after : {X : Type 0} (p : X → Bool) (x : X) (xs ys : List X) → AllByRecursion (λ y. p y ≡ false) (xs ++ x ∷ ys) → p x ≡ false
any_after p x [] ys a = a.0
any_after p x (z ∷ zs) ys a = any_after p x zs ys a.1

-- a text before another in a list of distinct texts isn't equal to the other
pub absent_before : {X : Type 0} {eq : X → X → Bool} → IsEquivalence eq → (xs ys : List X) (x : X) → IsDistinct eq (xs ++ x ∷ ys) → list_any (eq x) xs ≡ false
unfolding IsDistinct
absent_before laws [] ys x d = refl
absent_before {eq = eq} laws (z ∷ zs) ys x d = ap (λ b. b || list_any (eq x) zs) (laws.symm x z ∙ any_after (eq z) x zs ys d.0) ∙ absent_before laws zs ys x d.1

module _ {K : Type 0} (text : K → List ℕ) where
  -- texts are distinct, and keys are those texts
  pub record AreSeen (ks : List K) (ts : List (List ℕ)) : Type 0 where
    pub distinct : IsDistinct (pointwise nat_eq) ts
    pub same : (bs : List ℕ) → list_any (λ k. pointwise nat_eq bs (text k)) ks ≡ list_any (pointwise nat_eq bs) ts

  pub seen_none : AreSeen [] []
  unfolding IsDistinct
  seen_none = record { distinct = tt; same = λ bs. refl }

  pub seen_push : (ks ns : List K) (k : K) (ts : List (List ℕ)) → AreSeen ks ts → list_any (λ j. pointwise nat_eq (text k) (text j)) ks ≡ false → IsPermutation (k ∷ ks) ns → AreSeen ns (ts ++ text k ∷ [])
  seen_push ks ns k ts s absent p = record {
    distinct = IsDistinct-push nat_list_eq_equiv ts (text k) s.distinct (sym (s.same (text k)) ∙ absent);
    same = λ bs. sym (list_any-IsPermutation (λ j. pointwise nat_eq bs (text j)) (k ∷ ks) ns p) ∙ ap (λ b. pointwise nat_eq bs (text k) || b) (s.same bs) ∙ any_push (pointwise nat_eq bs) ts (text k);
  }

  pub seen_twice : (ks : List K) (k : K) (ts us : List (List ℕ)) → AreSeen ks ts → list_any (λ j. pointwise nat_eq (text k) (text j)) ks ≡ true → IsDistinct (pointwise nat_eq) (ts ++ text k ∷ us) → true ≡ false
  seen_twice ks k ts us s there d = sym there ∙ s.same (text k) ∙ absent_before nat_list_eq_equiv ts us (text k) d

-- the texts of a list, divided at a place
pub divided : {X Y : Type 0} (f : X → Y) (xs : List X) (i : ℕ) (d : X) → i < length xs → (us : List Y) × (map f xs ≡ map f (take i xs) ++ f (get_or xs i d) ∷ us)
divided f [] i d h = absurd (omega arith)
divided f (x ∷ xs) zero d h = (map f xs, refl)
divided f (x ∷ xs) (suc i) d h = let r = divided f xs i d (omega arith) in (r.0, ap (λ l. f x ∷ l) r.1)

pub not_yes : (b a : Bool) → a ≡ not b → a ≡ true → b ≡ false
not_yes true a p q = sym q ∙ p
not_yes false a p q = refl

pub not_no : (b a : Bool) → a ≡ not b → a ≡ false → b ≡ true
not_no true a p q = refl
not_no false a p q = sym q ∙ p
