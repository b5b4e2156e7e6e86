-- A character at the front of a text is the same, whatever follows the text.
use Rattle.std.proofs.Common.{◌≡◌, ℕ, ◌≤◌, Bool, true, false, cond, nat_lt, ◌==◌, [], ◌∷◌, ◌++◌, length, slice_index, Option, Some, None, refl, arith}
use Rattle.std.proofs.lemmas.Bool.Decides.{nat_tests}
use Rattle.std.proofs.lemmas.List.{length-append}
use Rattle.bstr.specs.Utf8.{Decoded, decoded, decoded_by, bad, second, continues}
use Rattle.yettuvam_wgsl_words.specs.Class.{Text, is_some_and, first_character}

-- a character that is there is kept
Grows : Decoded → Decoded → Type 0
Grows x y = (c : ℕ) → x.char ≡ Some c → y.char ≡ Some c

module _ (n m : ℕ) (b : ℕ) (more : n ≤ m) where
  same : (v : Bool) (x y x' y' : Decoded) → (v ≡ true → Grows x x') → (v ≡ false → Grows y y') → Grows (cond v x y) (cond v x' y')
  unfolding Grows
  same true x y x' y' g h = g refl
  same false x y x' y' g h = h refl

  -- a text that is long enough stays so
  long : (k s : ℕ) (x x' : Decoded) → (k ≤ n → Grows x x') → Grows (cond (nat_lt n k) (bad s) x) (cond (nat_lt m k) (bad s) x')
  unfolding Grows
  long k s x x' g = by (nat_lt n k) refl
    where
      by : (v : Bool) → nat_lt n k ≡ v → (c : ℕ) → (cond v (bad s) x).char ≡ Some c → (cond (nat_lt m k) (bad s) x').char ≡ Some c
      by true e c q = cc
      by false e c q =
          let f : nat_lt m k ≡ false = grind (arith, nat_tests, e) in
          let l : k ≤ n = grind (arith, nat_tests, e) in
          rw f (g l c q)

  nothing : (x : Decoded) (s : ℕ) → Grows (bad s) x
  unfolding Grows
  nothing x s c q = cc

  itself : (x : Decoded) → Grows x x
  unfolding Grows
  itself x c q = q

  some : (x x' : Decoded) → (1 ≤ n → Grows x x') → Grows (cond (n == 0) (bad 0) x) (cond (m == 0) (bad 0) x')
  unfolding Grows
  some x x' g = by (n == 0) refl
    where
      by : (v : Bool) → (n == 0) ≡ v → (c : ℕ) → (cond v (bad 0) x).char ≡ Some c → (cond (m == 0) (bad 0) x').char ≡ Some c
      by true e c q = cc
      by false e c q =
          let f : (m == 0) ≡ false = grind (arith, nat_tests, e) in
          let l : 1 ≤ n = grind (arith, nat_tests, e) in
          rw f (g l c q)

  by_grows : (c d e c' d' e' : ℕ) → (2 ≤ n → c' ≡ c) → (3 ≤ n → d' ≡ d) → (4 ≤ n → e' ≡ e) → Grows (decoded_by n b c d e) (decoded_by m b c' d' e')
  by_grows c d e c' d' e' p q r =
      some _ _ (λ l. same (nat_lt b 0x80) _ _ _ _ (λ _. itself _) (λ _.
      same (nat_lt b 0xC2) _ _ _ _ (λ _. itself _) (λ _.
      same (nat_lt 0xF4 b) _ _ _ _ (λ _. itself _) (λ _.
      long 2 1 _ _ (λ two. rw (p two) (same (second b c) _ _ _ _ (λ _.
      same (nat_lt b 0xE0) _ _ _ _ (λ _. itself _) (λ _.
      long 3 2 _ _ (λ three. rw (q three) (same (continues d) _ _ _ _ (λ _.
      same (nat_lt b 0xF0) _ _ _ _ (λ _. itself _) (λ _.
      long 4 3 _ _ (λ four. rw (r four) (itself _)))) (λ _. itself _))))) (λ _. itself _)))))))

-- the bytes of a text that others follow
at_one : (z t : Text) → 2 ≤ length z → slice_index (z ++ t) 1 ≡ slice_index z 1
at_one [] t h = absurd (omega arith)
at_one (a ∷ []) t h = absurd (omega arith)
at_one (a ∷ b ∷ z) t h = refl

at_two : (z t : Text) → 3 ≤ length z → slice_index (z ++ t) 2 ≡ slice_index z 2
at_two [] t h = absurd (omega arith)
at_two (a ∷ []) t h = absurd (omega arith)
at_two (a ∷ b ∷ []) t h = absurd (omega arith)
at_two (a ∷ b ∷ c ∷ z) t h = refl

at_three : (z t : Text) → 4 ≤ length z → slice_index (z ++ t) 3 ≡ slice_index z 3
at_three [] t h = absurd (omega arith)
at_three (a ∷ []) t h = absurd (omega arith)
at_three (a ∷ b ∷ []) t h = absurd (omega arith)
at_three (a ∷ b ∷ c ∷ []) t h = absurd (omega arith)
at_three (a ∷ b ∷ c ∷ d ∷ z) t h = refl

grown : (a : ℕ) (z t : Text) → Grows (decoded (a ∷ z)) (decoded (a ∷ z ++ t))
grown a z t =
    let l : length (a ∷ z) ≤ length (a ∷ z ++ t) = omega (arith, length-append (a ∷ z) t) in
    by_grows (length (a ∷ z)) (length (a ∷ z ++ t)) a l _ _ _ _ _ _ (at_one (a ∷ z) t) (at_two (a ∷ z) t) (at_three (a ∷ z) t)

holds_of : (holds : ℕ → Bool) (o o' : Option ℕ) → ((c : ℕ) → o ≡ Some c → o' ≡ Some c) → is_some_and holds o ≡ true → is_some_and holds o' ≡ true
holds_of holds None o' g h = cc
holds_of holds (Some c) o' g h = rw (g c refl) h

pub first_kept : (holds : ℕ → Bool) (a : ℕ) (z t : Text) → is_some_and holds (first_character (a ∷ z)) ≡ true → is_some_and holds (first_character (a ∷ z ++ t)) ≡ true
unfolding first_character Grows
first_kept holds a z t h = holds_of holds _ _ (grown a z t) h
