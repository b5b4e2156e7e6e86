-- Functions without a level, and cycles of calls.
use Rattle.std.proofs.Common.{◌≡◌, ◌∙◌, ⊎_elim, ℕ, zero, suc, ◌+◌, ◌<◌, ◌≤◌, ◌↔◌, Bool, true, false, cond, List, [], ◌∷◌, length, slice_get, unwrap_or, Option, Some, None, option_map, is_none, IfSome, IsErr, All, refl, ap, sym, subst, arith}
use Rattle.std.specs.List.{range_with_len}
use Rattle.std.specs.Option.{option_flatten}
use Rattle.std.proofs.lemmas.Bool.{cases_lt, false≢true}
use Rattle.std.proofs.lemmas.List.{length-map}
use Rattle.std.proofs.lemmas.List.Elements.{All-nil, All-cons}
use Rattle.std.proofs.lemmas.List.FromFn.{length-map-range_with_len}
use Rattle.std.proofs.lemmas.Option.{slice_get-map, slice_get_past, slice_get_within}
use Rattle.naga_oil_form.specs.Links.{Links, linked, has}
use Rattle.naga_oil_ir.specs.ModuleValue.{FunctionValue}
use Rattle.naga_oil_ir.specs.declared.span.Span.{Span}
use Rattle.naga_oil_redirect.specs.Level.{StayWithin, HasCycle, Leads, Calls, Through, level, levels, known, without_level}
use Rattle.naga_oil_redirect.specs.Ordered.{callees_of, calls_of, ordering, ordered}
use Rattle.naga_oil_redirect.proofs.LevelLemmas.{cycle_from, level_lies_below, on_cycle}
use Rattle.naga_oil_redirect.proofs.OrderLemmas.{passing_from, passing-cons}

first_if : (n : ℕ) (p : Option ℕ → Bool) (o : Option ℕ) (xs : List (Option ℕ)) (k : ℕ) (ks : List ℕ) (b : Bool) → p o ≡ b → cond b (n ∷ passing_from (n + 1) p xs) (passing_from (n + 1) p xs) ≡ k ∷ ks → (passing_from (n + 1) p xs ≡ k ∷ ks → (j : ℕ) × (q : Option ℕ) × (k ≡ n + 1 + j) × (slice_get xs j ≡ Some q) × (p q ≡ true)) → (j : ℕ) × (q : Option ℕ) × (k ≡ n + j) × (slice_get (o ∷ xs) j ≡ Some q) × (p q ≡ true)
first_if n p o xs k ks true e h rest = (0, o, (let same : n ≡ k = cc in omega (arith, same)), refl, e)
first_if n p o xs k ks false e h rest = let r = rest h in (suc r.0, r.1, (let at = r.2 in omega (arith, at)), r.3, r.4)

-- the first that passes
pub passing_first : (n : ℕ) (p : Option ℕ → Bool) (xs : List (Option ℕ)) (k : ℕ) (ks : List ℕ) → passing_from n p xs ≡ k ∷ ks → (j : ℕ) × (q : Option ℕ) × (k ≡ n + j) × (slice_get xs j ≡ Some q) × (p q ≡ true)
passing_first n p [] k ks h = cc
passing_first n p (o ∷ xs) k ks h = first_if n p o xs k ks (p o) refl (sym (passing-cons n p o xs) ∙ h) (passing_first (n + 1) p xs k ks)

empty_if : (n : ℕ) (xs : List ℕ) (b : Bool) → cond b (n ∷ xs) xs ≡ [] → (b ≡ false) × (xs ≡ [])
empty_if n xs true h = cc
empty_if n xs false h = (refl, h)

-- where none passes
pub passing_none : (n : ℕ) (p : Option ℕ → Bool) (xs : List (Option ℕ)) → passing_from n p xs ≡ [] → (j : ℕ) (q : Option ℕ) → slice_get xs j ≡ Some q → p q ≡ false
passing_none n p [] h j q e = cc
passing_none n p (o ∷ xs) h zero q e = let r = empty_if n (passing_from (n + 1) p xs) (p o) (sym (passing-cons n p o xs) ∙ h) in (let same : o ≡ q = cc in ap p (sym same) ∙ r.0)
passing_none n p (o ∷ xs) h (suc j) q e = passing_none (n + 1) p xs (empty_if n (passing_from (n + 1) p xs) (p o) (sym (passing-cons n p o xs) ∙ h)).1 j q e

range_at : (a n k : ℕ) → k < n → slice_get (range_with_len a n) k ≡ Some (a + k)
range_at a zero k h = absurd (omega arith)
range_at a (suc n) zero h = ap Some (omega arith)
range_at a (suc n) (suc k) h = range_at (a + 1) n k (omega (arith, h)) ∙ ap Some (omega arith)

pub levels_at : (calls : Links) (k : ℕ) → k < length calls → slice_get (levels calls) k ≡ Some (level calls k)
levels_at calls k h = slice_get-map (level calls) (range_with_len 0 (length calls)) k ∙ ap (option_map (level calls)) (range_at 0 (length calls) k h ∙ ap Some (omega arith))

pub long_levels : (calls : Links) → length (levels calls) ≡ length calls
long_levels calls = length-map-range_with_len (level calls) 0 (length calls)

is_none_is : (o : Option ℕ) → is_none o ≡ true → o ≡ None
is_none_is None h = refl
is_none_is (Some l) h = absurd (false≢true h)

pub cycle_if : (calls : Links) → StayWithin calls → (k : ℕ) (ks : List ℕ) → without_level (levels calls) ≡ k ∷ ks → HasCycle calls
cycle_if calls w k ks h =
    let f = passing_first 0 is_none (levels calls) k ks h in
    let within : f.0 < length calls = omega (arith, slice_get_within (levels calls) f.0 f.1 f.3, long_levels calls) in
    let same : level calls f.0 ≡ f.1 = (let e = sym (levels_at calls f.0 within) ∙ f.3 in cc) in
    cycle_from calls w f.0 within (same ∙ is_none_is f.1 f.4)

calls_within : (calls : Links) (a b : ℕ) → has (linked calls a) b ≡ true → a < length calls
calls_within calls a b h = ⊎_elim (λ (i : a < length calls). i) (λ (i : length calls ≤ a). absurd (false≢true (sym (ap (λ o. has (unwrap_or o []) b) (slice_get_past calls a i)) ∙ h))) (cases_lt a (length calls))

leads_within : (calls : Links) (a b : ℕ) → Leads calls a b → a < length calls
leads_within calls a b (Calls e) = calls_within calls a b e
leads_within calls a b (Through {b = c} e p) = calls_within calls a c e

pub no_cycle_if : (calls : Links) → StayWithin calls → without_level (levels calls) ≡ [] → HasCycle calls → ⊥
no_cycle_if calls w h c =
    let within = leads_within calls c.0 c.0 c.1 in
    let none = on_cycle calls w c.0 (level calls c.0) within c.1 refl in
    false≢true (sym (passing_none 0 is_none (levels calls) h c.0 (level calls c.0) (levels_at calls c.0 within)) ∙ ap is_none none)

decided : (fs : List (FunctionValue × Span)) → StayWithin (calls_of fs) → (ks : List ℕ) → without_level (levels (calls_of fs)) ≡ ks → IsErr (ordering fs (levels (calls_of fs)) ks) ↔ HasCycle (calls_of fs)
decided fs w [] e = (λ h. absurd (false≢true h), λ c. absurd (no_cycle_if (calls_of fs) w e c))
decided fs w (k ∷ ks) e = (λ h. cycle_if (calls_of fs) w k ks e, λ c. refl)

-- functions have no order exactly if their calls have a cycle
pub ordered_cycle : (fs : List (FunctionValue × Span)) → StayWithin (calls_of fs) → IsErr (ordered fs) ↔ HasCycle (calls_of fs)
ordered_cycle fs w = decided fs w (without_level (levels (calls_of fs))) refl

-- ---- levels and places are small

if_low : (calls : Links) (n k : ℕ) (o : Option ℕ) → level calls k ≡ o → n ≡ length calls → IfSome o (λ l. l < n)
if_low calls n k None e i = tt
if_low calls n k (Some l) e i = omega (arith, level_lies_below calls (length calls) k l e, i)

levels_low : (calls : Links) (k : ℕ) → IfSome (known (levels calls) k) (λ l. l < length (levels calls))
levels_low calls k =
    let P : Option (Option ℕ) → Type 0 = λ o. IfSome (option_flatten o) (λ l. l < length (levels calls)) in
    ⊎_elim (λ (i : k < length calls). subst P (sym (levels_at calls k i)) (if_low calls (length (levels calls)) k (level calls k) refl (long_levels calls))) (λ (i : length calls ≤ k). subst P (sym (slice_get_past (levels calls) k (omega (arith, i, long_levels calls)))) tt) (cases_lt k (length calls))

-- a level is below the number of functions
pub low_levels : (calls : Links) (ls : List (Option ℕ)) → ls ≡ levels calls → (k : ℕ) → IfSome (known ls k) (λ l. l < length ls)
low_levels calls ls e = subst (λ xs. (k : ℕ) → IfSome (known xs k) (λ l. l < length xs)) (sym e) (levels_low calls)

within_if : (n m : ℕ) (xs : List ℕ) (b : Bool) → n < m → All (λ k. k < m) xs → All (λ k. k < m) (cond b (n ∷ xs) xs)
within_if n m xs true i h = All-cons (λ k. k < m) n xs i h
within_if n m xs false i h = h

pub passing_within : (n m : ℕ) (p : Option ℕ → Bool) (xs : List (Option ℕ)) → n + length xs ≤ m → All (λ k. k < m) (passing_from n p xs)
passing_within n m p [] i = All-nil (λ k. k < m)
passing_within n m p (o ∷ xs) i =
    subst (All (λ k. k < m)) (sym (passing-cons n p o xs)) (within_if n m (passing_from (n + 1) p xs) (p o) (omega (arith, i)) (passing_within (n + 1) m p xs (omega (arith, i))))

-- the functions without a level are there
pub without_within : (fs : List (FunctionValue × Span)) (n : ℕ) (ks : List ℕ) → n ≡ length fs → ks ≡ without_level (levels (calls_of fs)) → All (λ k. k < n) ks
without_within fs n ks i e =
    subst (All (λ k. k < n)) (sym e) (passing_within 0 n is_none (levels (calls_of fs)) (omega (arith, i, long_levels (calls_of fs), length-map fs (λ (f : FunctionValue × Span). callees_of f.0.body))))
