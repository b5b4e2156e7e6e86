-- Numbers are cut as numbers.
use Rattle.std.proofs.Common.{◌≡◌, ℕ, ◌+◌, ◌/◌, ◌%◌, ◌^◌, ◌<◌, ◌≤◌, Bool, true, false, ◌&&◌, ◌||◌, ◌==◌, nat_lt, [], ◌∷◌, ◌++◌, length, Some, refl, ap, arith}
use Rattle.std.proofs.lemmas.Bool.{agree_below, and_parts}
use Rattle.std.proofs.lemmas.Bool.Decides.{nat_tests}
use Rattle.std.proofs.lemmas.Fmt.{decimal_by_steps_wide, digits_is_IsNumeral}
use Rattle.std.specs.Char.{digit_value, is_ascii_alphabetic}
use Rattle.std.specs.Fmt.{decimal, digits}
use Rattle.std.specs.Str.Parse.{AllDigits}
use Rattle.yettuvam_wgsl_words.specs.declared.class.Class.{Class}
use Rattle.yettuvam_wgsl_words.specs.declared.class.Class.TheVariants as class
use Rattle.yettuvam_wgsl_words.specs.declared.token.Kind.TheVariants as k
use Rattle.yettuvam_wgsl_words.specs.Class.{Text, is_in, after, begins_with, starts_name, underscore, ascii_count}
use Rattle.yettuvam_wgsl_words.specs.Cut.{cut, number, number_by}
use Rattle.yettuvam_wgsl_words.specs.Number.{point, digit_zero, begins_number, after_number}
use Rattle.yettuvam_wgsl_spell_laws.proofs.Cuts.{token_and}
use Rattle.yettuvam_wgsl_spell_laws.proofs.Stops.{never_where}

-- ---- bytes

-- what holds of no digit, as one sees at each byte of ASCII
pub hex_never : (f : ℕ → Bool) → agree_below (λ b. is_in class.HexDigit b && f b) (λ b. false) 128 ≡ true → (b : ℕ) → is_in class.HexDigit b ≡ true → f b ≡ false
hex_never f all b h = never_where (is_in class.HexDigit) f (λ c e. grind (arith, nat_tests, e)) all b h

pub digit_never : (f : ℕ → Bool) → agree_below (λ b. is_in class.Digit b && f b) (λ b. false) 128 ≡ true → (b : ℕ) → is_in class.Digit b ≡ true → f b ≡ false
digit_never f all b h = never_where (is_in class.Digit) f (λ c e. grind (arith, nat_tests, e)) all b h

-- ---- texts of digits

abbrev pub all_in : Class → Text → Bool
all_in c [] = true
all_in c (b ∷ z) = is_in c b && all_in c z

pub all_append : (c : Class) (z y : Text) → all_in c z ≡ true → all_in c y ≡ true → all_in c (z ++ y) ≡ true
all_append c [] y h g = g
all_append c (b ∷ z) y h g = let p = and_parts (is_in c b) (all_in c z) h in rw p.0 (all_append c z y p.1 g)

-- the digits end before a text that begins with none
pub after_all : (c : Class) (z y : Text) → all_in c z ≡ true → begins_with c y ≡ false → after c (z ++ y) ≡ y
after_all c [] [] h e = refl
after_all c [] (b ∷ y) h e = rw e refl
after_all c (b ∷ z) y h e = let p = and_parts (is_in c b) (all_in c z) h in rw p.0 (after_all c z y p.1 e)

-- a digit, and further digits
pub record IsNumeral (c : Class) (z : Text) : Type 0 where
  pub first : ℕ
  pub rest : Text
  pub is : z ≡ first ∷ rest
  pub digit : is_in c first ≡ true
  pub digits : all_in c rest ≡ true

-- digits of a number, of which the first is no zero or the only one
pub record IsWhole (n : ℕ) (z : Text) : Type 0 where
  pub first : ℕ
  pub rest : Text
  pub is : z ≡ first ∷ rest
  pub digit : is_in class.Digit first ≡ true
  pub digits : all_in class.Digit rest ≡ true
  pub no_zero : 0 < n → (first == digit_zero) ≡ false
  pub alone : n ≡ 0 → rest ≡ []

below_ten : (n : ℕ) → n < 10 → is_in class.Digit (48 + n) ≡ true
below_ten n h = grind (arith, nat_tests, h)

one_digit : (n : ℕ) → n < 10 → IsWhole n ((48 + n) ∷ [])
one_digit n h = record { first = 48 + n; rest = []; is = refl; digit = below_ten n h; digits = refl; no_zero = λ p. grind (arith, nat_tests, p); alone = λ e. refl }

more_digits : (n : ℕ) (z : Text) → 10 ≤ n → IsWhole (n / 10) z → IsWhole n (z ++ ((48 + n % 10) ∷ []))
more_digits n z h w =
    let small : n % 10 < 10 = omega arith in
    let many : 0 < n / 10 = omega (arith, h) in
    let last : all_in class.Digit ((48 + n % 10) ∷ []) ≡ true = rw (below_ten (n % 10) small) refl in
    record {
      first = w.first;
      rest = w.rest ++ (48 + n % 10) ∷ [];
      is = ap (λ (x : Text). x ++ (48 + n % 10) ∷ []) w.is;
      digit = w.digit;
      digits = all_append class.Digit w.rest ((48 + n % 10) ∷ []) w.digits last;
      no_zero = λ p. w.no_zero many;
      alone = λ e. absurd (omega (arith, h, e));
    }

pub whole : (n : ℕ) → n < 10 ^ 64 → IsWhole n (decimal n)
whole n h = decimal_by_steps_wide IsWhole one_digit more_digits n h

pub numeral_of : (n : ℕ) (z : Text) → IsWhole n z → IsNumeral class.Digit z
numeral_of n z w = record { first = w.first; rest = w.rest; is = w.is; digit = w.digit; digits = w.digits }

hex_of : (z : Text) → AllDigits 16 z → all_in class.HexDigit z ≡ true
hex_of [] h = refl
hex_of (c ∷ z) h = let one : is_in class.HexDigit c ≡ true = hex_digit c h.0 in rw one (hex_of z h.1)
  where
    hex_digit : (b : ℕ) → digit_value b < 16 → is_in class.HexDigit b ≡ true
    hex_digit b e = grind (arith, nat_tests, e)

pub hex_numeral : (n : ℕ) → n < 16 ^ 64 → IsNumeral class.HexDigit (digits 16 false n)
hex_numeral n h =
    let two : 2 ≤ 16 = omega arith in
    let most : 16 ≤ 16 = omega arith in
    let d = (digits_is_IsNumeral 16 false two most n h).0 in
    by (digits 16 false n) d.0 (hex_of (digits 16 false n) d.1)
  where
    by : (z : Text) → 0 < length z → all_in class.HexDigit z ≡ true → IsNumeral class.HexDigit z
    by [] p e = absurd (omega (arith, p))
    by (c ∷ z) p e = let q = and_parts (is_in class.HexDigit c) (all_in class.HexDigit z) e in record { first = c; rest = z; is = refl; digit = q.0; digits = q.1 }

-- ---- the token of a number

-- a text that begins with a digit and is cut as a number
pub record IsNumber (z : Text) : Type 0 where
  pub first : ℕ
  pub rest : Text
  pub is : z ≡ first ∷ rest
  pub digit : is_in class.Digit first ≡ true
  pub cut_as : cut z ≡ token_and k.Number []

pub digit_names_nothing : (a : ℕ) (z : Text) → is_in class.Digit a ≡ true → starts_name (a ∷ z) ≡ false
digit_names_nothing a z d =
    let small : nat_lt a ascii_count ≡ true = grind (arith, nat_tests, d) in
    rw small (digit_never (λ c. is_ascii_alphabetic c || c == underscore) refl a d)

pub digit_begins : (a : ℕ) (z : Text) → is_in class.Digit a ≡ true → begins_number (a ∷ z) ≡ true
digit_begins a z d = let dot : (a == point) ≡ false = digit_never (λ c. c == point) refl a d in rw (dot, d) refl

pub cut_number : (a : ℕ) (z : Text) → is_in class.Digit a ≡ true → after_number (a ∷ z) ≡ Some [] → IsNumber (a ∷ z)
unfolding cut
cut_number a z d e =
    let blank : is_in class.Blank a ≡ false = digit_never (is_in class.Blank) refl a d in
    let read : number (a ∷ z) ≡ token_and k.Number [] = ap (λ o. number_by o (a ∷ z)) e in
    record { first = a; rest = z; is = refl; digit = d; cut_as = rw (blank, digit_names_nothing a z d, digit_begins a z d) read }
