use Rattle.std.proofs.Common.{◌≡◌, ℕ, zero, suc, ◌+◌, ◌<◌, ◌≤◌, Bool, true, false, cond, List, [], ◌∷◌, ◌++◌, length, slice_get, nat_eq, unwrap_or, nat_lt, not, drop, position, option_map, min, Option, Some, None, IfSome, Decides, refl, ap, sym, ◌∙◌, arith, rules, tests}
use Rattle.std.specs.Map.{lookup}
use Rattle.std.specs.List.{position_or_len}
use Rattle.std.specs.Option.{option_map_or}
use Rattle.std.proofs.lemmas.List.{length-append}
use Rattle.std.proofs.lemmas.Option.{slice_get_within}
use Rattle.naga_oil_ir.specs.Firsts.{Covers}
use Rattle.naga_oil_ir.specs.declared.span.Span.{Span}

number_decides : (a b : ℕ) → Decides (nat_eq a b) (a ≡ b)
number_decides a b = search (rules, tests)

pub if_some : {A : Type 0} {P Q : A → Type 0} (o : Option A) → ((x : A) → P x → Q x) → IfSome o P → IfSome o Q
if_some None f h = h
if_some (Some x) f h = f x h

get_front : {X : Type 0} (xs ys : List X) (i : ℕ) → i < length xs → slice_get (xs ++ ys) i ≡ slice_get xs i
get_front [] ys i h = absurd (omega (arith, h))
get_front (x ∷ xs) ys zero h = refl
get_front (x ∷ xs) ys (suc i) h = get_front xs ys i (omega (arith, h))

-- items that are appended leave the covered ones covered
pub covers-append : {T : Type 0} (d : T → ℕ) (all xs ys : List (T × Span)) (n : ℕ) (es : List (ℕ × ℕ)) → all ≡ xs ++ ys → Covers d xs n es → Covers d all n es
covers-append d all xs ys n es put h =
    (omega (arith, h.0, ap length put, length-append xs ys), λ i e l at. h.1 i e l (sym (get_front xs ys i (omega (arith, l, h.0))) ∙ (ap (λ zs. slice_get zs i) (sym put) ∙ at)))

split : {R : Type 0} (i n : ℕ) → i < suc n → (i < n → R) → (i ≡ n → R) → R
split zero zero l a b = b refl
split zero (suc n) l a b = a (omega arith)
split (suc i) zero l a b = absurd (omega (arith, l))
split (suc i) (suc n) l a b = split i n (omega (arith, l)) (λ h. a (omega (arith, h))) (λ h. b (ap (λ k. suc k) h))

-- the place noted for a digest is at most that of each item with the digest
noted_old : (o : Option ℕ) (n i f : ℕ) → f ≡ option_map_or (min n) o n → unwrap_or o (suc i) ≤ i → f ≤ i
noted_old None n i f is h = omega (arith, h)
noted_old (Some g) n i f is h = omega (arith, is, h)

noted_new : (o : Option ℕ) (n f : ℕ) → f ≡ option_map_or (min n) o n → f ≤ n
noted_new None n f is = omega (arith, is)
noted_new (Some g) n f is = omega (arith, is)

pub covers-step : {T : Type 0} (d : T → ℕ) (xs : List (T × Span)) (n m : ℕ) (es fs : List (ℕ × ℕ)) (e : T × Span) (f : ℕ) → m ≡ suc n → Covers d xs n es → slice_get xs n ≡ Some e → f ≡ option_map_or (min n) (lookup (nat_eq (d e.0)) es) n → ((q : ℕ) → lookup (nat_eq q) fs ≡ cond (nat_eq (d e.0) q) (Some f) (lookup (nat_eq q) es)) → Covers d xs m fs
covers-step {T} d xs n m es fs e f one h at is up =
    (omega (arith, one, slice_get_within xs n e at), λ i x l here. split i n (omega (arith, one, l)) (old i x here) (new i x here))
  where
    old : (i : ℕ) (x : T × Span) → slice_get xs i ≡ Some x → i < n → unwrap_or (lookup (nat_eq (d x.0)) fs) (suc i) ≤ i
    old i x here l = omega (arith, ap (λ o. unwrap_or o (suc i)) (up (d x.0)), by (nat_eq (d e.0) (d x.0)) refl)
      where
        below : unwrap_or (lookup (nat_eq (d x.0)) es) (suc i) ≤ i
        below = h.1 i x l here

        by : (b : Bool) → nat_eq (d e.0) (d x.0) ≡ b → unwrap_or (cond b (Some f) (lookup (nat_eq (d x.0)) es)) (suc i) ≤ i
        by true same =
            let alike : d x.0 ≡ d e.0 = sym ((number_decides (d e.0) (d x.0)).0 same) in
            noted_old (lookup (nat_eq (d e.0)) es) n i f is (omega (arith, ap (λ k. unwrap_or (lookup (nat_eq k) es) (suc i)) alike, below))
        by false same = below

    new : (i : ℕ) (x : T × Span) → slice_get xs i ≡ Some x → i ≡ n → unwrap_or (lookup (nat_eq (d x.0)) fs) (suc i) ≤ i
    new i x here last =
        let put : ◌≡◌ {A = Option (T × Span)} (Some x) (Some e) = sym here ∙ (ap (slice_get xs) last ∙ at) in
        let alike : d x.0 ≡ d e.0 = cc in
        let hit : nat_eq (d e.0) (d x.0) ≡ true = (number_decides (d e.0) (d x.0)).1 (sym alike) in
        let found : lookup (nat_eq (d x.0)) fs ≡ Some f = up (d x.0) ∙ ap (λ b. cond b (Some f) (lookup (nat_eq (d x.0)) es)) hit in
        omega (arith, ap (λ o. unwrap_or o (suc i)) found, noted_new (lookup (nat_eq (d e.0)) es) n f is, last)

lt_both : (k a b : ℕ) → nat_lt (k + a) (k + b) ≡ nat_lt a b
lt_both k a b = search (rules, tests)

-- a search may begin after elements that don't pass
skipped : {X : Type 0} (p : X → Bool) (xs : List X) (k : ℕ) → k ≤ length xs → ((i : ℕ) (x : X) → i < k → slice_get xs i ≡ Some x → p x ≡ false) → (position_or_len p xs ≡ k + position_or_len p (drop k xs)) × (length xs ≡ k + length (drop k xs))
skipped p [] zero l h = (omega arith, omega arith)
skipped p (x ∷ xs) zero l h = (omega arith, omega arith)
skipped p [] (suc k) l h = absurd (omega (arith, l))
skipped p (x ∷ xs) (suc k) l h =
    let rest = skipped p xs k (omega (arith, l)) (λ i y b at. h (suc i) y (omega (arith, b)) at) in
    (ap (λ b. cond (not b) (1 + position_or_len p xs) 0) (h 0 x (omega arith) refl) ∙ omega (arith, rest.0), omega (arith, rest.1))

pub skips : {X : Type 0} (p : X → Bool) (xs : List X) (k : ℕ) → k ≤ length xs → ((i : ℕ) (x : X) → i < k → slice_get xs i ≡ Some x → p x ≡ false) → position p xs ≡ option_map (λ m. k + m) (position p (drop k xs))
skips p xs k l h =
    let both = skipped p xs k l h in
    let m = position_or_len p (drop k xs) in
    let n = length (drop k xs) in
    ap (λ i. cond (nat_lt i (length xs)) (Some i) None) both.0 ∙ (ap (λ j. cond (nat_lt (k + m) j) (Some (k + m)) None) both.1 ∙ (ap (λ b. cond b (Some (k + m)) None) (lt_both k m n) ∙ by (nat_lt m n) m))
  where
    by : (b : Bool) (m : ℕ) → cond b (Some (k + m)) None ≡ option_map (λ m. k + m) (cond b (Some m) None)
    by true m = refl
    by false m = refl

-- if all items are covered, no item before the place of a digest equals one with the digest
pub skips-covered : {T : Type 0} (d : T → ℕ) (p : T × Span → Bool) (xs : List (T × Span)) (n : ℕ) (es : List (ℕ × ℕ)) (k f : ℕ) → Covers d xs n es → length xs ≤ n → ((e : T × Span) → p e ≡ true → k ≡ d e.0) → f ≡ option_map_or (min (length xs)) (lookup (nat_eq k) es) (length xs) → position p xs ≡ option_map (λ m. f + m) (position p (drop f xs))
skips-covered {T} d p xs n es k f h all law is = skips p xs f (noted_new (lookup (nat_eq k) es) (length xs) f is) other
  where
    other : (i : ℕ) (e : T × Span) → i < f → slice_get xs i ≡ Some e → p e ≡ false
    other i e l at = by (p e) refl
      where
        by : (b : Bool) → p e ≡ b → b ≡ false
        by false t = refl
        by true t =
            let below = h.1 i e (omega (arith, slice_get_within xs i e at, all)) at in
            let late = noted_old (lookup (nat_eq k) es) (length xs) i f is (omega (arith, ap (λ q. unwrap_or (lookup (nat_eq q) es) (suc i)) (law e t), below)) in
            absurd (omega (arith, late, l))
