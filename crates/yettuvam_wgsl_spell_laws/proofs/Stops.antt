-- What the lexer reads of a word or a number, before a byte that ends it.
use Rattle.std.proofs.Common.{◌≡◌, ℕ, ◌<◌, Bool, true, false, ◌&&◌, ◌||◌, ◌==◌, nat_lt, if◌then◌else◌, [], ◌∷◌, ◌++◌, Option, Some, option_map, refl, ap, ◌∙◌}
use Rattle.std.proofs.lemmas.Bool.{agree_below, agree_below_at, and_parts, not-true, ltb-true}
use Rattle.std.specs.Char.{to_ascii_lowercase}
use Rattle.unicode_ident.specs.Ident.{is_xid_start, is_xid_continue}
use Rattle.yettuvam_wgsl_words.specs.declared.class.Class.{Class}
use Rattle.yettuvam_wgsl_words.specs.declared.class.Class.TheVariants as class
use Rattle.yettuvam_wgsl_words.specs.Class.{Text, ascii_count, is_in, after, after_name, begins_with, continues_name, starts_name}
use Rattle.yettuvam_wgsl_words.specs.Number.{point, small_e, small_p, small_x, digit_zero, is_plus_or_minus, is_float_suffix, is_integer_suffix, after_one, has_fraction, after_fraction, has_exponent, after_plus_or_minus, after_float_suffix, after_integer_suffix, exponent_from, after_exponent, has_leading_zero, after_whole, after_hex_whole, has_hex_digit, after_hex, begins_hex, after_number}
use Rattle.yettuvam_wgsl_spell_laws.specs.Apart.{ends_words, ends_numbers}
use Rattle.yettuvam_wgsl_spell_laws.proofs.Decoded.{first_kept}

-- ---- bytes

second_of : (x y : Bool) → (x && y) ≡ false → x ≡ true → y ≡ false
second_of true y h e = h
second_of false y h e = cc

-- what holds of no byte of ASCII of some kind, as one sees at each byte
pub never_where : (p f : ℕ → Bool) → ((b : ℕ) → p b ≡ true → b < 128) → agree_below (λ b. p b && f b) (λ b. false) 128 ≡ true → (b : ℕ) → p b ≡ true → f b ≡ false
never_where p f small all b h = second_of (p b) (f b) (agree_below_at (λ c. p c && f c) (λ c. false) 128 b all (small b h)) h

pub ends_words_small : (b : ℕ) → ends_words b ≡ true → b < 128
ends_words_small b h = ltb-true b 128 ((and_parts (nat_lt b 128) _ h).0)

pub never_ends_number : (f : ℕ → Bool) → agree_below (λ b. ends_numbers b && f b) (λ b. false) 128 ≡ true → (b : ℕ) → ends_numbers b ≡ true → f b ≡ false
never_ends_number f all b h = never_where ends_numbers f (λ c e. ends_words_small c ((and_parts (ends_words c) _ e).0)) all b h

pub ends_word_too : (b : ℕ) → ends_numbers b ≡ true → ends_words b ≡ true
ends_word_too b h = (and_parts (ends_words b) _ h).0

-- ---- names

pub starts_more : (a : ℕ) (z t : Text) → starts_name (a ∷ z) ≡ true → starts_name (a ∷ z ++ t) ≡ true
starts_more a z t h = by (nat_lt a ascii_count) refl
  where
    by : (v : Bool) → nat_lt a ascii_count ≡ v → starts_name (a ∷ z ++ t) ≡ true
    by true e = rw e (rw e at h)
    by false e = rw e (first_kept is_xid_start a z t (rw e at h))

continues_more : (a : ℕ) (z t : Text) → continues_name (a ∷ z) ≡ true → continues_name (a ∷ z ++ t) ≡ true
continues_more a z t h = by (nat_lt a ascii_count) refl
  where
    wide : (v w w' : Bool) → (w ≡ true → w' ≡ true) → (v || w) ≡ true → (v || w') ≡ true
    wide true w w' g e = refl
    wide false w w' g e = g e

    by : (v : Bool) → nat_lt a ascii_count ≡ v → continues_name (a ∷ z ++ t) ≡ true
    by true e = rw e (rw e at h)
    by false e = rw e (wide (is_in class.Continuation a) _ _ (first_kept is_xid_continue a z t) (rw e at h))

module _ (b : ℕ) (r : Text) where
  abbrev pub t : Text
  t = b ∷ r

  pub not_continued : ends_words b ≡ true → continues_name t ≡ false
  not_continued w =
      let parts = and_parts (nat_lt b ascii_count) _ w in
      rw parts.0 (not-true _ parts.1)

  pub name_ends : ends_words b ≡ true → (z : Text) → after_name z ≡ [] → after_name (z ++ t) ≡ t
  name_ends w [] h = rw (not_continued w) refl
  name_ends w (a ∷ z) h = by (name_ends w z) (continues_name (a ∷ z)) refl
    where
      by : (after_name z ≡ [] → after_name (z ++ t) ≡ t) → (v : Bool) → continues_name (a ∷ z) ≡ v → after_name (a ∷ z ++ t) ≡ t
      by rest true e = rw (continues_more a z t e) (rest (rw e at h))
      by rest false e = let none : a ∷ z ≡ [] = rw e at h in cc

  -- ---- numbers

  pub after_ends : (c : Class) → is_in c b ≡ false → (z : Text) → after c (z ++ t) ≡ after c z ++ t
  after_ends c e [] = rw e refl
  after_ends c e (a ∷ z) = elim (is_in c a) as (λ w. (if w then after c (z ++ t) else a ∷ (z ++ t)) ≡ (if w then after c z else a ∷ z) ++ t) [
    | true ↦ after_ends c e z
    | false ↦ refl
  ]

  one_ends : (p : ℕ → Bool) → p b ≡ false → (z : Text) → after_one p (z ++ t) ≡ after_one p z ++ t
  one_ends p e [] = rw e refl
  one_ends p e (a ∷ z) = elim (p a) as (λ w. (if w then z ++ t else a ∷ (z ++ t)) ≡ (if w then z else a ∷ z) ++ t) [
    | true ↦ refl
    | false ↦ refl
  ]

  begins_ends : (c : Class) → is_in c b ≡ false → (z : Text) → begins_with c (z ++ t) ≡ begins_with c z
  begins_ends c e [] = e
  begins_ends c e (a ∷ z) = refl

  fraction_ends : (c : Class) → is_in c b ≡ false → (b == point) ≡ false → (z : Text) → after_fraction c (z ++ t) ≡ after_fraction c z ++ t
  fraction_ends c e d [] = rw d refl
  fraction_ends c e d (a ∷ z) = elim (a == point) as (λ w. (if w then after c (z ++ t) else a ∷ (z ++ t)) ≡ (if w then after c z else a ∷ z) ++ t) [
    | true ↦ after_ends c e z
    | false ↦ refl
  ]

  has_fraction_ends : (b == point) ≡ false → (z : Text) → has_fraction (z ++ t) ≡ has_fraction z
  has_fraction_ends d [] = d
  has_fraction_ends d (a ∷ z) = refl

  has_exponent_ends : (letter : ℕ) → (to_ascii_lowercase b == letter) ≡ false → (z : Text) → has_exponent letter (z ++ t) ≡ has_exponent letter z
  has_exponent_ends letter e [] = e
  has_exponent_ends letter e (a ∷ z) = refl

  -- a rest with the text that follows
  abbrev pub more : Option Text → Option Text
  more o = option_map (λ x. x ++ t) o

  either : (v w : Bool) (x y x' y' : Option Text) → w ≡ v → x' ≡ more x → y' ≡ more y → (if w then x' else y') ≡ more (if v then x else y)
  either true w x y x' y' e f g = rw e f
  either false w x y x' y' e f g = rw e g

  module _ (h : ends_numbers b ≡ true) where
    digit : is_in class.Digit b ≡ false
    digit = never_ends_number (is_in class.Digit) refl b h

    hex_digit : is_in class.HexDigit b ≡ false
    hex_digit = never_ends_number (is_in class.HexDigit) refl b h

    no_point : (b == point) ≡ false
    no_point = never_ends_number (λ c. c == point) refl b h

    float_suffix_ends : (z : Text) → after_float_suffix (z ++ t) ≡ after_float_suffix z ++ t
    float_suffix_ends z = one_ends is_float_suffix (never_ends_number is_float_suffix refl b h) z

    integer_suffix_ends : (z : Text) → after_integer_suffix (z ++ t) ≡ after_integer_suffix z ++ t
    integer_suffix_ends z = one_ends is_integer_suffix (never_ends_number is_integer_suffix refl b h) z

    plus_or_minus_ends : (z : Text) → after_plus_or_minus (z ++ t) ≡ after_plus_or_minus z ++ t
    plus_or_minus_ends z = one_ends is_plus_or_minus (never_ends_number is_plus_or_minus refl b h) z

    exponent_from_ends : (z : Text) → exponent_from (z ++ t) ≡ more (exponent_from z)
    exponent_from_ends z =
        either (begins_with class.Digit z) (begins_with class.Digit (z ++ t)) _ _ _ _ (begins_ends class.Digit digit z)
        (ap Some (ap after_float_suffix (after_ends class.Digit digit z) ∙ float_suffix_ends (after class.Digit z))) refl

    -- an exponent begins with a letter
    exponent_ends : (letter : ℕ) (z : Text) → has_exponent letter z ≡ true → after_exponent (z ++ t) ≡ more (after_exponent z)
    exponent_ends letter [] e = cc
    exponent_ends letter (a ∷ z) e = ap exponent_from (plus_or_minus_ends z) ∙ exponent_from_ends (after_plus_or_minus z)

    if_exponent : (letter : ℕ) (z : Text) (y y' : Option Text) → (to_ascii_lowercase b == letter) ≡ false → y' ≡ more y
        → (if has_exponent letter (z ++ t) then after_exponent (z ++ t) else y') ≡ more (if has_exponent letter z then after_exponent z else y)
    if_exponent letter z y y' e f = rw (has_exponent_ends letter e z) (by (has_exponent letter z) refl)
      where
        by : (v : Bool) → has_exponent letter z ≡ v → (if v then after_exponent (z ++ t) else y') ≡ more (if v then after_exponent z else y)
        by true g = exponent_ends letter z g
        by false g = f

    leading_ends : (a : ℕ) (z : Text) → has_leading_zero (a ∷ z ++ t) ≡ has_leading_zero (a ∷ z)
    leading_ends a z = ap (λ v. a == digit_zero && v) (begins_ends class.Digit digit z)

    whole_ends : (a : ℕ) (z whole : Text) → after_whole (a ∷ z ++ t) (whole ++ t) ≡ more (after_whole (a ∷ z) whole)
    whole_ends a z whole =
        let rest : Text = after_fraction class.Digit whole in
        rw (fraction_ends class.Digit digit no_point whole)
        (if_exponent small_e rest _ _ (never_ends_number (λ c. to_ascii_lowercase c == small_e) refl b h)
        (either (has_fraction whole) (has_fraction (whole ++ t)) _ _ _ _ (has_fraction_ends no_point whole) (ap Some (float_suffix_ends rest))
        (either (has_leading_zero (a ∷ z)) (has_leading_zero (a ∷ z ++ t)) _ _ _ _ (leading_ends a z) refl
        (ap Some (ap after_float_suffix (integer_suffix_ends rest) ∙ float_suffix_ends (after_integer_suffix rest))))))

    hex_whole_ends : (whole : Text) → after_hex_whole (whole ++ t) ≡ more (after_hex_whole whole)
    hex_whole_ends whole =
        let rest : Text = after_fraction class.HexDigit whole in
        rw (fraction_ends class.HexDigit hex_digit no_point whole)
        (if_exponent small_p rest _ _ (never_ends_number (λ c. to_ascii_lowercase c == small_p) refl b h)
        (either (has_fraction whole) (has_fraction (whole ++ t)) _ _ _ _ (has_fraction_ends no_point whole) refl (ap Some (integer_suffix_ends rest))))

    has_hex_digit_ends : (z : Text) → has_hex_digit (z ++ t) ≡ has_hex_digit z
    has_hex_digit_ends [] = rw no_point hex_digit
    has_hex_digit_ends (a ∷ z) = elim (a == point) as (λ w. (if w then begins_with class.HexDigit (z ++ t) else is_in class.HexDigit a) ≡ (if w then begins_with class.HexDigit z else is_in class.HexDigit a)) [
      | true ↦ begins_ends class.HexDigit hex_digit z
      | false ↦ refl
    ]

    hex_ends : (z : Text) → after_hex (z ++ t) ≡ more (after_hex z)
    hex_ends z = either (has_hex_digit z) (has_hex_digit (z ++ t)) _ _ _ _ (has_hex_digit_ends z) (ap after_hex_whole (after_ends class.HexDigit hex_digit z) ∙ hex_whole_ends (after class.HexDigit z)) refl

    no_x : (a : ℕ) → (a == digit_zero && (to_ascii_lowercase b == small_x)) ≡ false
    no_x a = rw (never_ends_number (λ c. to_ascii_lowercase c == small_x) refl b h) (elim (a == digit_zero) as (λ w. (w && false) ≡ false) [ true ↦ refl | false ↦ refl ])

    decimal_ends : (a : ℕ) (z : Text) → after_whole (a ∷ z ++ t) (after class.Digit (a ∷ z ++ t)) ≡ more (after_whole (a ∷ z) (after class.Digit (a ∷ z)))
    decimal_ends a z = ap (after_whole (a ∷ z ++ t)) (after_ends class.Digit digit (a ∷ z)) ∙ whole_ends a z (after class.Digit (a ∷ z))

    pub number_ends : (a : ℕ) (z : Text) → after_number (a ∷ z ++ t) ≡ more (after_number (a ∷ z))
    number_ends a [] = rw (no_x a) (decimal_ends a [])
    number_ends a (c ∷ z) = either (begins_hex (a ∷ c ∷ z)) (begins_hex (a ∷ c ∷ z ++ t)) _ _ _ _ refl (hex_ends z) (decimal_ends a (c ∷ z))
