use Rattle.std.proofs.Common.{◌≡◌, ◌≢◌, ⊎_elim, ℕ, zero, suc, ◌+◌, ◌<◌, Bool, true, false, ◌==◌, List, [], ◌∷◌, ◌++◌, length, Option, Some, None, is_some, is_none, slice_set, refl, ap, sym, ◌∙◌, subst, arith}
use Rattle.std.specs.Option.{option_flatten}
use Rattle.std.proofs.lemmas.Bool.{or_cases, cases_Bool, false≢true}
use Rattle.naga_oil_form.specs.Links.{has}
use Rattle.naga_oil_form.proofs.LinkLemmas.{eqb_eq, eq_eqb, or_left, or_right, slice_get-set_same, slice_get-set_other}
use Rattle.naga_oil_redirect.specs.Count.{bit, count, times}
use Rattle.naga_oil_redirect.specs.Level.{known}

pub bit_true : (b : Bool) → b ≡ true → bit b ≡ 1
bit_true b h = ap bit h

pub bit_false : (b : Bool) → b ≡ false → bit b ≡ 0
bit_false b h = ap bit h

pub differs : (a b : ℕ) → a ≢ b → (a == b) ≡ false
differs a b h = ⊎_elim (λ e. absurd (h (eqb_eq a b e))) (λ e. e) (cases_Bool (a == b))

pub bit_self : (a b : ℕ) → a ≡ b → bit (a == b) ≡ 1
bit_self a b h = bit_true (a == b) (eq_eqb a b h)

pub bit_other : (a b : ℕ) → a ≢ b → bit (a == b) ≡ 0
bit_other a b h = bit_false (a == b) (differs a b h)

pub count-append : (p : ℕ → Bool) (xs ys : List ℕ) → count p (xs ++ ys) ≡ count p xs + count p ys
count-append p [] ys = omega arith
count-append p (x ∷ xs) ys = omega (arith, count-append p xs ys)

pub times-push : (k : ℕ) (xs : List ℕ) (y : ℕ) → times k (xs ++ y ∷ []) ≡ times k xs + bit (y == k)
times-push k xs y = omega (arith, count-append (λ z. z == k) xs (y ∷ []))

-- where all pass
pub count_all : (p : ℕ → Bool) → ((x : ℕ) → p x ≡ true) → (xs : List ℕ) → count p xs ≡ length xs
count_all p h [] = refl
count_all p h (x ∷ xs) = omega (arith, bit_true (p x) (h x), count_all p h xs)

-- where one passes, it is there
pub count_some : (p : ℕ → Bool) (xs : List ℕ) → 0 < count p xs → (c : ℕ) × (has xs c ≡ true) × (p c ≡ true)
count_some p [] h = absurd (omega arith)
count_some p (x ∷ xs) h =
    ⊎_elim (λ e. (x, or_left (x == x) (has xs x) (eq_eqb x x refl), e)) (λ e. let r = count_some p xs (omega (arith, h, bit_false (p x) e)) in (r.0, or_right (x == r.0) (has xs r.0) r.1, r.2)) (cases_Bool (p x))

-- one that is there and passes is counted
pub counted : (p : ℕ → Bool) (xs : List ℕ) (c : ℕ) → has xs c ≡ true → p c ≡ true → 0 < count p xs
counted p [] c h e = absurd (false≢true h)
counted p (x ∷ xs) c h e =
    ⊎_elim (λ i. let b = bit_true (p x) (ap p (eqb_eq x c i) ∙ e) in omega (arith, b)) (λ i. let r = counted p xs c i e in omega (arith, r)) (or_cases (x == c) (has xs c) h)

-- where none passes
pub count_none : (p : ℕ → Bool) (xs : List ℕ) → count p xs ≡ 0 → (c : ℕ) → has xs c ≡ true → p c ≡ false
count_none p xs h c i = ⊎_elim (λ e. absurd (omega (arith, h, counted p xs c i e))) (λ e. e) (cases_Bool (p c))

pub times_some : (k : ℕ) (xs : List ℕ) → 0 < times k xs → has xs k ≡ true
times_some k xs h = let r = count_some (λ y. y == k) xs h in subst (λ c. has xs c ≡ true) (eqb_eq r.0 k r.2) r.1

-- ---- levels as they get known

pub known-set_same : (ls : List (Option ℕ)) (f : ℕ) (o : Option ℕ) → f < length ls → known (slice_set ls f o) f ≡ o
known-set_same ls f o h = ap option_flatten (slice_get-set_same ls f o h)

pub known-set_other : (ls : List (Option ℕ)) (f k : ℕ) (o : Option ℕ) → k ≢ f → known (slice_set ls f o) k ≡ known ls k
known-set_other ls f k o h = ap option_flatten (slice_get-set_other ls f k o h)

some_same : (ls : List (Option ℕ)) (f l k : ℕ) → f < length ls → known ls f ≡ None → k ≡ f → bit (is_some (known (slice_set ls f (Some l)) k)) ≡ bit (f == k) + bit (is_some (known ls k))
some_same ls f l k i h e =
    let new : bit (is_some (known (slice_set ls f (Some l)) k)) ≡ 1 = ap (λ j. bit (is_some (known (slice_set ls f (Some l)) j))) e ∙ ap (λ o. bit (is_some o)) (known-set_same ls f (Some l) i) in
    let old : bit (is_some (known ls k)) ≡ 0 = ap (λ j. bit (is_some (known ls j))) e ∙ ap (λ o. bit (is_some o)) h in
    omega (arith, new, old, bit_self f k (sym e))

some_other : (ls : List (Option ℕ)) (f l k : ℕ) → k ≢ f → bit (is_some (known (slice_set ls f (Some l)) k)) ≡ bit (f == k) + bit (is_some (known ls k))
some_other ls f l k e =
    let new = ap (λ o. bit (is_some o)) (known-set_other ls f k (Some l) e) in
    omega (arith, new, bit_other f k (λ g. e (sym g)))

none_same : (ls : List (Option ℕ)) (f l k : ℕ) → f < length ls → known ls f ≡ None → k ≡ f → bit (is_none (known (slice_set ls f (Some l)) k)) + bit (k == f) ≡ bit (is_none (known ls k))
none_same ls f l k i h e =
    let new : bit (is_none (known (slice_set ls f (Some l)) k)) ≡ 0 = ap (λ j. bit (is_none (known (slice_set ls f (Some l)) j))) e ∙ ap (λ o. bit (is_none o)) (known-set_same ls f (Some l) i) in
    let old : bit (is_none (known ls k)) ≡ 1 = ap (λ j. bit (is_none (known ls j))) e ∙ ap (λ o. bit (is_none o)) h in
    omega (arith, new, old, bit_self k f e)

none_other : (ls : List (Option ℕ)) (f l k : ℕ) → k ≢ f → bit (is_none (known (slice_set ls f (Some l)) k)) + bit (k == f) ≡ bit (is_none (known ls k))
none_other ls f l k e =
    let new = ap (λ o. bit (is_none o)) (known-set_other ls f k (Some l) e) in
    omega (arith, new, bit_other k f e)

-- once a level gets known, one bit moves
pub some-bit : (ls : List (Option ℕ)) (f l k : ℕ) → f < length ls → known ls f ≡ None → bit (is_some (known (slice_set ls f (Some l)) k)) ≡ bit (f == k) + bit (is_some (known ls k))
some-bit ls f l k i h = ⊎_elim (λ e. some_same ls f l k i h (eqb_eq k f e)) (λ e. some_other ls f l k (λ g. false≢true (sym e ∙ eq_eqb k f g))) (cases_Bool (k == f))

pub none-bit : (ls : List (Option ℕ)) (f l k : ℕ) → f < length ls → known ls f ≡ None → bit (is_none (known (slice_set ls f (Some l)) k)) + bit (k == f) ≡ bit (is_none (known ls k))
none-bit ls f l k i h = ⊎_elim (λ e. none_same ls f l k i h (eqb_eq k f e)) (λ e. none_other ls f l k (λ g. false≢true (sym e ∙ eq_eqb k f g))) (cases_Bool (k == f))

-- a callee less is open
pub count-set : (ls : List (Option ℕ)) (f l : ℕ) → f < length ls → known ls f ≡ None → (cs : List ℕ) → count (λ c. is_none (known (slice_set ls f (Some l)) c)) cs + times f cs ≡ count (λ c. is_none (known ls c)) cs
count-set ls f l i h [] = refl
count-set ls f l i h (c ∷ cs) = omega (arith, none-bit ls f l c i h, count-set ls f l i h cs)

-- the number of unknown levels
abbrev pub nones : List (Option ℕ) → ℕ
nones [] = 0
nones (o ∷ os) = bit (is_none o) + nones os

pub nones-set : (ls : List (Option ℕ)) (f l : ℕ) → f < length ls → known ls f ≡ None → nones (slice_set ls f (Some l)) < nones ls
nones-set [] f l i h = absurd (omega arith)
nones-set (o ∷ ls) zero l i h = let b : bit (is_none o) ≡ 1 = ap (λ v. bit (is_none v)) h in omega (arith, b)
nones-set (o ∷ ls) (suc f) l i h = let r = nones-set ls f l (omega (arith, i)) h in omega (arith, r)
