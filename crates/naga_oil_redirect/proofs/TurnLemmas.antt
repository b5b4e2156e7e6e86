-- The order of functions: each stands after what it calls.
use Rattle.std.proofs.Common.{◌≡◌, ◌∙◌, ⊎_elim, ◌⊎◌, inl, inr, ℕ, zero, suc, ◌+◌, ◌<◌, ◌≤◌, ◌||◌, ◌==◌, Bool, true, false, cond, List, [], ◌∷◌, ◌++◌, length, take, get_or, slice_get, Option, Some, None, is_none, Ok, All, refl, ap, sym, subst, arith}
use Rattle.std.specs.List.{flat_map, range_with_len}
use Rattle.std.proofs.lemmas.Bool.{cases_lt, or_cases, false≢true}
use Rattle.std.proofs.lemmas.List.{length-map}
use Rattle.std.proofs.lemmas.List.Elements.{All-nil, All-append}
use Rattle.std.proofs.lemmas.Option.{slice_get_within, same_Some}
use Rattle.naga_oil_form.specs.Links.{Links, linked, has}
use Rattle.naga_oil_ir.specs.ModuleValue.{FunctionValue}
use Rattle.naga_oil_ir.specs.declared.span.Span.{Span}
use Rattle.naga_oil_form.proofs.LinkLemmas.{or_left, or_right, eqb_eq, eq_eqb, has-append, in_all, All-has}
use Rattle.naga_oil_redirect.specs.Level.{StayWithin, level, levels, passing, is_level, without_level, by_level}
use Rattle.naga_oil_redirect.specs.Ordered.{callees_of, calls_of, ordering, ordered}
use Rattle.naga_oil_redirect.proofs.CycleLemmas.{passing_within, passing_none, levels_at, long_levels}
use Rattle.naga_oil_redirect.proofs.LevelLemmas.{lower, level_lies_below}
use Rattle.naga_oil_redirect.proofs.OrderLemmas.{passing_from, passing-cons}

-- ---- the order holds places alone

all_within : (m : ℕ) (ls : List (Option ℕ)) → length ls ≤ m → (a n : ℕ) → All (λ k. k < m) (flat_map (λ l. passing (is_level l) ls) (range_with_len a n))
all_within m ls i a zero = All-nil (λ k. k < m)
all_within m ls i a (suc n) =
    All-append (λ k. k < m) (passing (is_level a) ls) (flat_map (λ l. passing (is_level l) ls) (range_with_len (a + 1) n)) (passing_within 0 m (is_level a) ls (omega (arith, i))) (all_within m ls i (a + 1) n)

order_is : (fs : List (FunctionValue × Span)) (ls : List (Option ℕ)) (ks os : List ℕ) → ordering fs ls ks ≡ Ok os → (os ≡ by_level ls) × (ks ≡ [])
order_is fs ls [] os h = (let e : by_level ls ≡ os = cc in sym e, refl)
order_is fs ls (k ∷ ks) os h = cc

-- where functions have an order it is by levels, and each has one
by_levels : (fs : List (FunctionValue × Span)) (os : List ℕ) → ordered fs ≡ Ok os → (os ≡ by_level (levels (calls_of fs))) × (without_level (levels (calls_of fs)) ≡ [])
by_levels fs os h = order_is fs (levels (calls_of fs)) (without_level (levels (calls_of fs))) os h

as_many : (fs : List (FunctionValue × Span)) → length (calls_of fs) ≡ length fs
as_many fs = length-map fs (λ (f : FunctionValue × Span). callees_of f.0.body)

-- the order of functions holds places of functions alone
pub order_within : (fs : List (FunctionValue × Span)) (os : List ℕ) (n : ℕ) → ordered fs ≡ Ok os → n ≡ length fs → All (λ k. k < n) os
order_within fs os n h e =
    let calls = calls_of fs in
    let long = long_levels calls ∙ as_many fs ∙ sym e in
    subst (All (λ k. k < n)) (sym (by_levels fs os h).0) (all_within n (levels calls) (omega (arith, long)) 0 (length (levels calls)))

-- ---- what passes, by place

front_has : (n k : ℕ) (ks : List ℕ) (b : Bool) → n ≡ k → b ≡ true → has (cond b (n ∷ ks) ks) k ≡ true
front_has n k ks true e h = or_left (n == k) (has ks k) (eq_eqb n k e)
front_has n k ks false e h = absurd (false≢true h)

back_has : (n k : ℕ) (ks : List ℕ) (b : Bool) → has ks k ≡ true → has (cond b (n ∷ ks) ks) k ≡ true
back_has n k ks true h = or_right (n == k) (has ks k) h
back_has n k ks false h = h

passing_has : (n : ℕ) (p : Option ℕ → Bool) (xs : List (Option ℕ)) (j : ℕ) (o : Option ℕ) → slice_get xs j ≡ Some o → p o ≡ true → has (passing_from n p xs) (n + j) ≡ true
passing_has n p [] j o at h = cc
passing_has n p (x ∷ xs) zero o at h =
    let same : x ≡ o = same_Some x o at in
    subst (λ ks. has ks (n + 0) ≡ true) (sym (passing-cons n p x xs)) (front_has n (n + 0) (passing_from (n + 1) p xs) (p x) (omega arith) (ap p same ∙ h))
passing_has n p (x ∷ xs) (suc j) o at h =
    let place : n + 1 + j ≡ n + suc j = omega arith in
    let rest = subst (λ k. has (passing_from (n + 1) p xs) k ≡ true) place (passing_has (n + 1) p xs j o at h) in
    subst (λ ks. has ks (n + suc j) ≡ true) (sym (passing-cons n p x xs)) (back_has n (n + suc j) (passing_from (n + 1) p xs) (p x) rest)

-- what passes at a place, where places count from n
abbrev Passes : ℕ → (Option ℕ → Bool) → List (Option ℕ) → ℕ → Type 0
Passes n p xs k = (j : ℕ) × (o : Option ℕ) × (k ≡ n + j) × (slice_get xs j ≡ Some o) × (p o ≡ true)

passes_later : (n : ℕ) (p : Option ℕ → Bool) (x : Option ℕ) (xs : List (Option ℕ)) (k : ℕ) → Passes (n + 1) p xs k → Passes n p (x ∷ xs) k
passes_later n p x xs k r = (suc r.0, r.1, (let at = r.2 in omega (arith, at)), r.3, r.4)

passing_if : (n : ℕ) (p : Option ℕ → Bool) (x : Option ℕ) (xs : List (Option ℕ)) (k : ℕ) (b : Bool) → p x ≡ b → has (cond b (n ∷ passing_from (n + 1) p xs) (passing_from (n + 1) p xs)) k ≡ true → (has (passing_from (n + 1) p xs) k ≡ true → Passes (n + 1) p xs k) → Passes n p (x ∷ xs) k
passing_if n p x xs k true e h rest =
    ⊎_elim (λ i. (0, x, (let same = eqb_eq n k i in omega (arith, same)), refl, e)) (λ i. passes_later n p x xs k (rest i)) (or_cases (n == k) (has (passing_from (n + 1) p xs) k) h)
passing_if n p x xs k false e h rest = passes_later n p x xs k (rest h)

passing_is : (n : ℕ) (p : Option ℕ → Bool) (xs : List (Option ℕ)) (k : ℕ) → has (passing_from n p xs) k ≡ true → Passes n p xs k
passing_is n p [] k h = absurd (false≢true h)
passing_is n p (x ∷ xs) k h = passing_if n p x xs k (p x) refl (subst (λ ks. has ks k ≡ true) (passing-cons n p x xs) h) (passing_is (n + 1) p xs k)

-- ---- the functions of a level

is_that : (l : ℕ) (o : Option ℕ) → is_level l o ≡ true → o ≡ Some l
is_that l None h = absurd (false≢true h)
is_that l (Some m) h = ap Some (eqb_eq m l h)

abbrev of_level : Links → ℕ → List ℕ
of_level calls l = passing (is_level l) (levels calls)

has_level : (calls : Links) (l k : ℕ) → has (of_level calls l) k ≡ true → (k < length calls) × (level calls k ≡ Some l)
has_level calls l k h =
    let r = passing_is 0 (is_level l) (levels calls) k h in
    let place : r.0 ≡ k = omega (arith, r.2) in
    let within : k < length calls = omega (arith, r.2, slice_get_within (levels calls) r.0 r.1 r.3, long_levels calls) in
    let same : level calls k ≡ r.1 = same_Some (level calls k) r.1 (sym (levels_at calls k within) ∙ ap (slice_get (levels calls)) (sym place) ∙ r.3) in
    (within, same ∙ is_that l r.1 r.4)

level_has : (calls : Links) (l k : ℕ) → k < length calls → level calls k ≡ Some l → has (of_level calls l) k ≡ true
level_has calls l k i e =
    let place : 0 + k ≡ k = omega arith in
    subst (λ j. has (of_level calls l) j ≡ true) place (passing_has 0 (is_level l) (levels calls) k (Some l) (levels_at calls k i ∙ ap Some e) (eq_eqb l l refl))

-- ---- lists joined

-- a place lies in the first list or in the rest
joined_at : (xs ys : List ℕ) (i : ℕ) → i < length (xs ++ ys) → (has xs (get_or (xs ++ ys) i 0) ≡ true) ⊎ ((j : ℕ) × (j < length ys) × (get_or (xs ++ ys) i 0 ≡ get_or ys j 0) × (take i (xs ++ ys) ≡ xs ++ take j ys))
joined_at [] ys i h = inr (i, h, refl, refl)
joined_at (x ∷ xs) ys zero h = inl (or_left (x == x) (has xs x) (eq_eqb x x refl))
joined_at (x ∷ xs) ys (suc i) h =
    ⊎_elim (λ e. inl (or_right (x == get_or (xs ++ ys) i 0) (has xs (get_or (xs ++ ys) i 0)) e)) (λ r. inr (r.0, r.1, r.2, ap (λ zs. x ∷ zs) r.3)) (joined_at xs ys i (omega (arith, h)))

-- the place i, at which k stands, lies in the list of a number; those of the numbers before it stand before i
record IsTurn (f : ℕ → List ℕ) (a i k : ℕ) (ks : List ℕ) : Type 0 where
  number : ℕ
  own : has (f number) k ≡ true
  before : (m c : ℕ) → a ≤ m → m < number → has (f m) c ≡ true → has (take i ks) c ≡ true

turn_first : (f : ℕ → List ℕ) (a i k : ℕ) (ks : List ℕ) → has (f a) k ≡ true → IsTurn f a i k ks
turn_first f a i k ks h = record { number = a; own = h; before = λ m c l g e. absurd (omega (arith, l, g)) }

turn_later : (f : ℕ → List ℕ) (a i j k : ℕ) (ys ks : List ℕ) → take i ks ≡ f a ++ take j ys → IsTurn f (a + 1) j k ys → IsTurn f a i k ks
turn_later f a i j k ys ks e t =
    let front = λ (c : ℕ) (b : (has (f a) c || has (take j ys) c) ≡ true). ap (λ zs. has zs c) e ∙ has-append (f a) (take j ys) c ∙ b in
    record {
      number = t.number;
      own = t.own;
      before = λ m c l g h. ⊎_elim (λ (i : a < m). front c (or_right (has (f a) c) (has (take j ys) c) (t.before m c (omega (arith, i)) g h))) (λ (i : m ≤ a). let same : m ≡ a = omega (arith, i, l) in front c (or_left (has (f a) c) (has (take j ys) c) (ap (λ n. has (f n) c) (sym same) ∙ h))) (cases_lt a m);
    }

turn_at : (f : ℕ → List ℕ) (a n i : ℕ) → i < length (flat_map f (range_with_len a n)) → IsTurn f a i (get_or (flat_map f (range_with_len a n)) i 0) (flat_map f (range_with_len a n))
turn_at f a zero i h = absurd (omega (arith, h))
turn_at f a (suc n) i h =
    let ys = flat_map f (range_with_len (a + 1) n) in
    ⊎_elim (λ e. turn_first f a i (get_or (f a ++ ys) i 0) (f a ++ ys) e) (λ r. subst (λ k. IsTurn f a i k (f a ++ ys)) (sym r.2) (turn_later f a i r.0 (get_or ys r.0 0) ys (f a ++ ys) r.3 (turn_at f (a + 1) n r.0 r.1))) (joined_at (f a) ys i h)

-- ---- callees stand before

before_in : (calls : Links) → StayWithin calls → (os : List ℕ) (i : ℕ) → os ≡ by_level (levels calls) → i < length os → (g : ℕ) → has (linked calls (get_or os i 0)) g ≡ true → has (take i os) g ≡ true
before_in calls w os i e h g c =
    let n = length (levels calls) in
    let all = by_level (levels calls) in
    let k = get_or os i 0 in
    let turn : IsTurn (of_level calls) 0 i k os = subst (λ ks. IsTurn (of_level calls) 0 i (get_or ks i 0) ks) (sym e) (turn_at (of_level calls) 0 n i (subst (λ ks. i < length ks) e h)) in
    let own = has_level calls turn.number k turn.own in
    let callee = lower calls w k g turn.number own.0 own.1 c in
    let there = All-has (λ x. x < length calls) (linked calls k) g (w k) c in
    turn.before callee.0 g (omega arith) callee.2 (level_has calls callee.0 g there callee.1)

-- in the order of functions each stands after what it calls
pub callees_before : (fs : List (FunctionValue × Span)) → StayWithin (calls_of fs) → (os : List ℕ) (i : ℕ) → ordered fs ≡ Ok os → i < length os → (g : ℕ) → has (linked (calls_of fs) (get_or os i 0)) g ≡ true → has (take i os) g ≡ true
callees_before fs w os i e h g c = before_in (calls_of fs) w os i (by_levels fs os e).0 h g c

some_level : (o : Option ℕ) → is_none o ≡ false → (l : ℕ) × (o ≡ Some l)
some_level None h = absurd (false≢true (sym h))
some_level (Some l) h = (l, refl)

range_has : (a n l : ℕ) → a ≤ l → l < a + n → has (range_with_len a n) l ≡ true
range_has a zero l i h = absurd (omega (arith, i, h))
range_has a (suc n) l i h =
    ⊎_elim (λ (j : a < l). or_right (a == l) (has (range_with_len (a + 1) n) l) (range_has (a + 1) n l (omega (arith, j)) (omega (arith, h)))) (λ (j : l ≤ a). or_left (a == l) (has (range_with_len (a + 1) n) l) (eq_eqb a l (omega (arith, i, j)))) (cases_lt a l)

-- and each function stands in it
pub each_in_order : (fs : List (FunctionValue × Span)) (os : List ℕ) → ordered fs ≡ Ok os → (k : ℕ) → k < length fs → has os k ≡ true
each_in_order fs os e k h =
    let calls = calls_of fs in
    let all = by_levels fs os e in
    let i : k < length calls = omega (arith, h, as_many fs) in
    let l = some_level (level calls k) (passing_none 0 is_none (levels calls) all.1 k (level calls k) (levels_at calls k i)) in
    let low = level_lies_below calls (length calls) k l.0 l.1 in
    let in_range = range_has 0 (length (levels calls)) l.0 (omega arith) (omega (arith, low, long_levels calls)) in
    subst (λ ks. has ks k ≡ true) (sym all.0) (in_all (of_level calls) (range_with_len 0 (length (levels calls))) l.0 k in_range (level_has calls l.0 k i l.1))
