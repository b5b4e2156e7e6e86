-- Texts cut around `::`.
use Rattle.std.proofs.Common.{◌≡◌, ℕ, zero, suc, ◌<◌, ◌≤◌, Bool, true, false, eqb, ◌&&◌, List, [], ◌∷◌, length, take, drop, Option, Some, None, MatchOption, Bor, refl, sym, ap, ◌∙◌, arith}
use borrow.Author.Tests.{eqb-true}
use Rattle.std.specs.Option.{option_map}
use Rattle.std.specs.Str.Pattern.{FindsText, RFindsText, LacksTextAt, SplitsAroundMatch}
use Rattle.naga_oil_imports.specs.Substituted.{cut_at_first, module_and_item}

colons : List ℕ
colons = 58 ∷ 58 ∷ []

-- no `::` at the front
not_here : (a b : ℕ) (more : List ℕ) → LacksTextAt (58 ∷ 58 ∷ []) (a ∷ b ∷ more) 0 → (eqb a 58 && eqb b 58) ≡ false
not_here a b more none = by (eqb a 58) (eqb b 58) refl refl
  where
    by : (x y : Bool) → eqb a 58 ≡ x → eqb b 58 ≡ y → (x && y) ≡ false
    by false y p q = refl
    by true false p q = refl
    by true true p q = absurd (none more (λ i. eqb-true a 58 p i ∷ eqb-true b 58 q i ∷ more))

pub first_none : (s : List ℕ) → ((i : ℕ) → i ≤ length s → LacksTextAt (58 ∷ 58 ∷ []) s i) → cut_at_first s ≡ None
first_none [] none = refl
first_none (a ∷ []) none = refl
first_none (a ∷ b ∷ more) none =
    rw (not_here a b more (none 0 (omega arith))) (ap (option_map (λ p. (a ∷ p.0, p.1))) (first_none (b ∷ more) (λ i h. none (suc i) (omega (arith, h)))))

first_at : (s : List ℕ) (i : ℕ) (back : List ℕ) → ((k : ℕ) → k < i → LacksTextAt (58 ∷ 58 ∷ []) s k) → drop i s ≡ 58 ∷ 58 ∷ back → cut_at_first s ≡ Some (take i s, back)
first_at [] zero back none at = cc
first_at [] (suc i) back none at = cc
first_at (a ∷ []) zero back none at = cc
first_at (a ∷ []) (suc zero) back none at = cc
first_at (a ∷ []) (suc (suc i)) back none at = cc
first_at (a ∷ b ∷ more) zero back none at =
    let first : a ≡ 58 = cc in
    let second : b ≡ 58 = cc in
    let rest : more ≡ back = cc in
    rw (first, second, rest) refl
first_at (a ∷ b ∷ more) (suc i) back none at =
    rw (not_here a b more (none 0 (omega arith))) (ap (option_map (λ p. (a ∷ p.0, p.1))) (first_at (b ∷ more) i back (λ k h. none (suc k) (omega (arith, h))) at))

last_none : (s : List ℕ) → ((i : ℕ) → i ≤ length s → LacksTextAt (58 ∷ 58 ∷ []) s i) → module_and_item s ≡ None
last_none [] none = refl
last_none (a ∷ []) none = refl
last_none (a ∷ b ∷ more) none = rw (last_none (b ∷ more) (λ i h. none (suc i) (omega (arith, h))), not_here a b more (none 0 (omega arith))) refl

last_at : (s : List ℕ) (i : ℕ) (back : List ℕ) → ((k : ℕ) → i < k → k ≤ length s → LacksTextAt (58 ∷ 58 ∷ []) s k) → drop i s ≡ 58 ∷ 58 ∷ back → module_and_item s ≡ Some (take i s, back)
last_at [] zero back none at = cc
last_at [] (suc i) back none at = cc
last_at (a ∷ []) zero back none at = cc
last_at (a ∷ []) (suc zero) back none at = cc
last_at (a ∷ []) (suc (suc i)) back none at = cc
last_at (a ∷ b ∷ more) zero back none at =
    let first : a ≡ 58 = cc in
    let second : b ≡ 58 = cc in
    let rest : more ≡ back = cc in
    rw (last_none (b ∷ more) (λ k h. none (suc k) (omega arith) (omega (arith, h))), first, second, rest) refl
last_at (a ∷ b ∷ more) (suc i) back none at = rw (last_at (b ∷ more) i back (λ k g h. none (suc k) (omega (arith, g)) (omega (arith, h))) at) refl

-- the result of `split_once` at `::`
pub split_first : (s : List ℕ) (r : Option (Bor (List ℕ) × Bor (List ℕ)))
    → MatchOption r (FindsText (58 ∷ 58 ∷ []) s None) (λ x. SplitsAroundMatch (FindsText (58 ∷ 58 ∷ [])) s x.0.now x.1.now)
    → option_map (λ p. (p.0.now, p.1.now)) r ≡ cut_at_first s
split_first s None h = sym (first_none s h)
split_first s (Some x) h =
    let found = h.2 in
    sym (first_at s h.0 x.1.now found.0 (found.1.split ∙ ap (λ l. 58 ∷ 58 ∷ l) (sym h.4)) ∙ ap (λ l. Some (l, x.1.now)) (sym h.3))

-- a path without `::`, and one that is cut around its last `::`
pub path_is_whole : (s : List ℕ) → RFindsText (58 ∷ 58 ∷ []) s None → None ≡ module_and_item s
path_is_whole s h = sym (last_none s h)

pub path_splits : (s front back : List ℕ) → SplitsAroundMatch (RFindsText (58 ∷ 58 ∷ [])) s front back → Some (front, back) ≡ module_and_item s
path_splits s front back h =
    let found = h.2 in
    sym (last_at s h.0 back found.0 (found.1.split ∙ ap (λ l. 58 ∷ 58 ∷ l) (sym h.4)) ∙ ap (λ l. Some (l, back)) (sym h.3))
