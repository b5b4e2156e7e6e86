-- Letters of bits that come byte by byte.
use Rattle.std.proofs.Common.{◌≡◌, ℕ, zero, suc, ◌+◌, ◌-◌, ◌*◌, ◌/◌, ◌%◌, ◌^◌, ◌<◌, List, [], ◌∷◌, ◌++◌, refl, sym, ap, ◌∙◌, arith, add-one}
use Rattle.std.specs.Prelude.{replicate}
use Rattle.std.proofs.lemmas.Nat.{shr-shr}
use Rattle.naga_oil_lines.specs.Decorate.{bits, number, letter, letters, bytes_of}

halved : (n v : ℕ) → v / 2 ^ suc n ≡ v / 2 ^ n / 2
halved n v = sym (shr-shr v n 1 ∙ ap (λ k. v / 2 ^ k) (add-one n))

five_bits : (w : ℕ) → number (w / 2 / 2 / 2 / 2 % 2 ∷ w / 2 / 2 / 2 % 2 ∷ w / 2 / 2 % 2 ∷ w / 2 % 2 ∷ w % 2 ∷ []) ≡ w % 32
five_bits w = omega arith

-- the first five of more bits are a letter
pub letters_step : (n v : ℕ) (more : List ℕ) → letters (bits (n + 5) v ++ more) ≡ letter (v / 2 ^ n % 32) ∷ letters (bits n v ++ more)
unfolding letters
letters_step n v more =
    let five : n + 5 ≡ suc (suc (suc (suc (suc n)))) = omega arith in
    let group : number (v / 2 ^ suc (suc (suc (suc n))) % 2 ∷ v / 2 ^ suc (suc (suc n)) % 2 ∷ v / 2 ^ suc (suc n) % 2 ∷ v / 2 ^ suc n % 2 ∷ v / 2 ^ n % 2 ∷ []) ≡ v / 2 ^ n % 32 =
    simp halved (five_bits (v / 2 ^ n)) in
    rw five (ap (λ k. letter k ∷ letters (bits n v ++ more)) group)

-- appending a byte to a number appends its bits
low_bits : (a b : ℕ) → bits 8 (a * 256 + b) ≡ bits 8 b
low_bits a b =
    let e7 : (a * 256 + b) / 128 % 2 ≡ b / 128 % 2 = omega arith in
    let e6 : (a * 256 + b) / 64 % 2 ≡ b / 64 % 2 = omega arith in
    let e5 : (a * 256 + b) / 32 % 2 ≡ b / 32 % 2 = omega arith in
    let e4 : (a * 256 + b) / 16 % 2 ≡ b / 16 % 2 = omega arith in
    let e3 : (a * 256 + b) / 8 % 2 ≡ b / 8 % 2 = omega arith in
    let e2 : (a * 256 + b) / 4 % 2 ≡ b / 4 % 2 = omega arith in
    let e1 : (a * 256 + b) / 2 % 2 ≡ b / 2 % 2 = omega arith in
    let e0 : (a * 256 + b) / 1 % 2 ≡ b / 1 % 2 = omega arith in
    λ i. e7 i ∷ e6 i ∷ e5 i ∷ e4 i ∷ e3 i ∷ e2 i ∷ e1 i ∷ e0 i ∷ []

module _ (p b : ℕ) (byte : b < 256) where
  bit0 : (p % 32 * 256 + b) / 256 % 2 ≡ p / 1 % 2
  bit0 = omega arith

  bit1 : (p % 32 * 256 + b) / 512 % 2 ≡ p / 2 % 2
  bit1 = omega arith

  bit2 : (p % 32 * 256 + b) / 1024 % 2 ≡ p / 4 % 2
  bit2 = omega arith

  bit3 : (p % 32 * 256 + b) / 2048 % 2 ≡ p / 8 % 2
  bit3 = omega arith

  after_one : bits 9 (p % 32 * 256 + b) ≡ bits 1 p ++ bits 8 b
  after_one = λ i. bit0 i ∷ low_bits (p % 32) b i

  after_two : bits 10 (p % 32 * 256 + b) ≡ bits 2 p ++ bits 8 b
  after_two = λ i. bit1 i ∷ after_one i

  after_three : bits 11 (p % 32 * 256 + b) ≡ bits 3 p ++ bits 8 b
  after_three = λ i. bit2 i ∷ after_two i

  after_four : bits 12 (p % 32 * 256 + b) ≡ bits 4 p ++ bits 8 b
  after_four = λ i. bit3 i ∷ after_three i

pub bits_after : (n p b : ℕ) → n < 5 → b < 256 → bits (n + 8) (p % 32 * 256 + b) ≡ bits n p ++ bits 8 b
bits_after zero p b few byte = low_bits (p % 32) b
bits_after (suc zero) p b few byte = after_one p b byte
bits_after (suc (suc zero)) p b few byte = after_two p b byte
bits_after (suc (suc (suc zero))) p b few byte = after_three p b byte
bits_after (suc (suc (suc (suc zero)))) p b few byte = after_four p b byte
bits_after (suc (suc (suc (suc (suc n))))) p b few byte = absurd (omega arith)

-- fewer than five bits are filled with zero bits
pub last_letter : (n p : ℕ) → 0 < n → n < 5 → letters (bits n p ++ []) ≡ letter (p % 16 * 16 / 2 ^ (n - 1) % 32) ∷ []
unfolding letters
last_letter zero p some few = absurd (omega arith)
last_letter (suc zero) p some few =
    let e : number (p / 1 % 2 ∷ replicate 4 0) ≡ p % 16 * 16 / 1 % 32 = omega arith in ap (λ k. letter k ∷ []) e
last_letter (suc (suc zero)) p some few =
    let e : number (p / 2 % 2 ∷ p / 1 % 2 ∷ replicate 3 0) ≡ p % 16 * 16 / 2 % 32 = omega arith in ap (λ k. letter k ∷ []) e
last_letter (suc (suc (suc zero))) p some few =
    let e : number (p / 4 % 2 ∷ p / 2 % 2 ∷ p / 1 % 2 ∷ replicate 2 0) ≡ p % 16 * 16 / 4 % 32 = omega arith in ap (λ k. letter k ∷ []) e
last_letter (suc (suc (suc (suc zero)))) p some few =
    let e : number (p / 8 % 2 ∷ p / 4 % 2 ∷ p / 2 % 2 ∷ p / 1 % 2 ∷ replicate 1 0) ≡ p % 16 * 16 / 8 % 32 = omega arith in ap (λ k. letter k ∷ []) e
last_letter (suc (suc (suc (suc (suc n))))) p some few = absurd (omega arith)

-- ---- bytes of bits that come letter by letter
eight_bits : (w : ℕ) → number (w / 2 / 2 / 2 / 2 / 2 / 2 / 2 % 2 ∷ w / 2 / 2 / 2 / 2 / 2 / 2 % 2 ∷ w / 2 / 2 / 2 / 2 / 2 % 2 ∷ w / 2 / 2 / 2 / 2 % 2 ∷ w / 2 / 2 / 2 % 2 ∷ w / 2 / 2 % 2 ∷ w / 2 % 2 ∷ w % 2 ∷ []) ≡ w % 256
eight_bits w = omega arith

-- the first eight of more bits are a byte
pub bytes_step : (n v : ℕ) (more : List ℕ) → bytes_of (bits (n + 8) v ++ more) ≡ v / 2 ^ n % 256 ∷ bytes_of (bits n v ++ more)
unfolding bytes_of
bytes_step n v more =
    let eight : n + 8 ≡ suc (suc (suc (suc (suc (suc (suc (suc n))))))) = omega arith in
    let group : number (v / 2 ^ suc (suc (suc (suc (suc (suc (suc n)))))) % 2 ∷ v / 2 ^ suc (suc (suc (suc (suc (suc n))))) % 2 ∷ v / 2 ^ suc (suc (suc (suc (suc n)))) % 2 ∷ v / 2 ^ suc (suc (suc (suc n))) % 2
    ∷ v / 2 ^ suc (suc (suc n)) % 2 ∷ v / 2 ^ suc (suc n) % 2 ∷ v / 2 ^ suc n % 2 ∷ v / 2 ^ n % 2 ∷ []) ≡ v / 2 ^ n % 256 =
    simp halved (eight_bits (v / 2 ^ n)) in
    rw eight (ap (λ k. k ∷ bytes_of (bits n v ++ more)) group)

-- fewer than eight bits are no byte
pub no_byte : (n v : ℕ) → n < 8 → bytes_of (bits n v ++ []) ≡ []
unfolding bytes_of
no_byte zero v few = refl
no_byte (suc zero) v few = refl
no_byte (suc (suc zero)) v few = refl
no_byte (suc (suc (suc zero))) v few = refl
no_byte (suc (suc (suc (suc zero)))) v few = refl
no_byte (suc (suc (suc (suc (suc zero))))) v few = refl
no_byte (suc (suc (suc (suc (suc (suc zero)))))) v few = refl
no_byte (suc (suc (suc (suc (suc (suc (suc zero))))))) v few = refl
no_byte (suc (suc (suc (suc (suc (suc (suc (suc n)))))))) v few = absurd (omega arith)

-- appending a letter to a number appends its bits
module _ (p v : ℕ) where
  letter_bits : bits 5 (p % 256 * 32 + v % 32) ≡ bits 5 v
  letter_bits =
      let e4 : (p % 256 * 32 + v % 32) / 16 % 2 ≡ v / 16 % 2 = omega arith in
      let e3 : (p % 256 * 32 + v % 32) / 8 % 2 ≡ v / 8 % 2 = omega arith in
      let e2 : (p % 256 * 32 + v % 32) / 4 % 2 ≡ v / 4 % 2 = omega arith in
      let e1 : (p % 256 * 32 + v % 32) / 2 % 2 ≡ v / 2 % 2 = omega arith in
      let e0 : (p % 256 * 32 + v % 32) / 1 % 2 ≡ v / 1 % 2 = omega arith in
      λ i. e4 i ∷ e3 i ∷ e2 i ∷ e1 i ∷ e0 i ∷ []

  high : (k : ℕ) → k < 8 → (p % 256 * 32 + v % 32) / 2 ^ (k + 5) % 2 ≡ p / 2 ^ k % 2
  high zero few = omega arith
  high (suc zero) few = omega arith
  high (suc (suc zero)) few = omega arith
  high (suc (suc (suc zero))) few = omega arith
  high (suc (suc (suc (suc zero)))) few = omega arith
  high (suc (suc (suc (suc (suc zero))))) few = omega arith
  high (suc (suc (suc (suc (suc (suc zero)))))) few = omega arith
  high (suc (suc (suc (suc (suc (suc (suc zero))))))) few = omega arith
  high (suc (suc (suc (suc (suc (suc (suc (suc k)))))))) few = absurd (omega arith)

  pub letter_after : (n : ℕ) → n < 9 → bits (n + 5) (p % 256 * 32 + v % 32) ≡ bits n p ++ bits 5 v
  letter_after zero few = letter_bits
  letter_after (suc n) few =
      let one : suc n + 5 ≡ suc (n + 5) = omega arith in
      rw one (λ i. high n (omega arith) i ∷ letter_after n (omega arith) i)
