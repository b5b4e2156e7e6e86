-- Literals are cut as numbers, or as `false` and `true`.
use Rattle.std.proofs.Common.{◌≡◌, ℕ, zero, suc, ◌+◌, ◌-◌, ◌*◌, ◌/◌, ◌%◌, ◌^◌, ◌<◌, Bool, true, false, ◌&&◌, ◌==◌, nat_lt, nat_le, if◌then◌else◌, [], ◌∷◌, ◌++◌, codes, Some, refl, sym, ap, ◌∙◌, arith, append_assoc, append-nil, subst}
use Rattle.std.proofs.lemmas.Bool.Decides.{nat_tests}
use Rattle.std.specs.Char.{to_ascii_lowercase}
use Rattle.std.specs.Fmt.{decimal, digits}
use Rattle.yettuvam_wgsl_pieces.specs.Numbers.{class_of, is_hexadecimal, leading_of, exponent_of, bias, float_class, suffix, digit, pointed, exponent_text, hexadecimal, plain_float, decimal_float, float_text, integer_text, bool_text, literal_text}
use Rattle.yettuvam_wgsl_pieces.specs.Pieces.{Literal, Number}
use Rattle.yettuvam_wgsl_words.specs.declared.class.Class.TheVariants as class
use Rattle.yettuvam_wgsl_words.specs.declared.token.Kind.TheVariants as k
use Rattle.yettuvam_wgsl_words.specs.Class.{Text, is_in, after, begins_with}
use Rattle.yettuvam_wgsl_words.specs.Cut.{cut, group}
use Rattle.yettuvam_wgsl_words.specs.Number.{point, digit_zero, small_e, small_p, small_x, is_plus_or_minus, after_float_suffix, after_plus_or_minus, exponent_from, has_leading_zero, has_exponent, has_hex_digit, after_whole, after_hex_whole, begins_hex}
use Rattle.yettuvam_wgsl_spell_laws.specs.Meant.{IsGood, kind_cut}
use Rattle.yettuvam_wgsl_spell_laws.proofs.Cuts.{token_and}
use Rattle.yettuvam_wgsl_spell_laws.proofs.Numerals.{IsNumber, all_in, all_append, after_all, IsNumeral, IsWhole, whole, hex_numeral, digit_never, hex_never, cut_number}

-- ---- decimal numbers

no_leading : (n : ℕ) (z y : Text) → IsWhole n z → begins_with class.Digit y ≡ false → has_leading_zero (z ++ y) ≡ false
no_leading n z y w e = rw w.is (by n w e)
  where
    right : (v : Bool) → (v && false) ≡ false
    right true = refl
    right false = refl

    by : (m : ℕ) → (u : IsWhole m z) → begins_with class.Digit y ≡ false → (u.first == digit_zero && begins_with class.Digit (u.rest ++ y)) ≡ false
    by zero u f = rw (u.alone refl, f) (right (u.first == digit_zero))
    by (suc m) u f = rw (u.no_zero (omega arith)) refl

no_hex : (n : ℕ) (z y : Text) → (w : IsWhole n z) → has_exponent small_x y ≡ false → begins_hex (w.first ∷ w.rest ++ y) ≡ false
no_hex n z y w e = by w.rest y w.digits e
  where
    right : (v u : Bool) → u ≡ false → (v && u) ≡ false
    right true u f = f
    right false u f = refl

    by : (rest x : Text) → all_in class.Digit rest ≡ true → has_exponent small_x x ≡ false → begins_hex (w.first ∷ rest ++ x) ≡ false
    by [] [] d f = refl
    by [] (b ∷ x) d f = right (w.first == digit_zero) _ f
    by (c ∷ rest) x d f = right (w.first == digit_zero) _ (digit_never (λ b. to_ascii_lowercase b == small_x) refl c (first_digit (is_in class.Digit c) _ d))
      where
        first_digit : (v u : Bool) → (v && u) ≡ true → v ≡ true
        first_digit true u g = refl
        first_digit false u g = cc

-- the digits of a number, and what follows them
cut_decimal : (n : ℕ) (z y : Text) → IsWhole n z → begins_with class.Digit y ≡ false → has_exponent small_x y ≡ false → after_whole (z ++ y) y ≡ Some [] → IsNumber (z ++ y)
cut_decimal n z y w e x h =
    let all : all_in class.Digit (w.first ∷ w.rest) ≡ true = rw w.digit w.digits in
    let rest : after class.Digit (w.first ∷ w.rest ++ y) ≡ y = after_all class.Digit (w.first ∷ w.rest) y all e in
    let end : after_whole (w.first ∷ w.rest ++ y) y ≡ Some [] = rw w.is at h in
    rw w.is (cut_number w.first (w.rest ++ y) w.digit (rw (no_hex n z y w x, rest) end))

-- ---- suffixes

pub data IntSuffix : Type 0 where
  NoInt : IntSuffix
  Signed : IntSuffix
  Unsigned : IntSuffix

abbrev int_bytes : IntSuffix → Text
int_bytes NoInt = []
int_bytes Signed = codes "i"
int_bytes Unsigned = codes "u"

pub data FloatSuffix : Type 0 where
  NoFloat : FloatSuffix
  Single : FloatSuffix
  Half : FloatSuffix

abbrev float_bytes : FloatSuffix → Text
float_bytes NoFloat = []
float_bytes Single = codes "f"
float_bytes Half = codes "h"

int_suffix : (c : ℕ) → nat_lt c 4 ≡ true → (s : IntSuffix) × (suffix c ≡ int_bytes s)
int_suffix c h =
    let five : (c == 5) ≡ false = grind (arith, nat_tests, h) in
    let six : (c == 6) ≡ false = grind (arith, nat_tests, h) in
    by (c == 2) (c == 3) five six
  where
    by : (v w : Bool) → (c == 5) ≡ false → (c == 6) ≡ false → (s : IntSuffix) × ((if v then codes "i" else (if w then codes "u" else (if c == 5 then codes "f" else (if c == 6 then codes "h" else [])))) ≡ int_bytes s)
    by true w f g = (Signed, refl)
    by false true f g = (Unsigned, refl)
    by false false f g = (NoInt, rw (f, g) refl)

float_suffix : (c : ℕ) → nat_lt c 4 ≡ false → (s : FloatSuffix) × (suffix c ≡ float_bytes s)
float_suffix c h =
    let two : (c == 2) ≡ false = grind (arith, nat_tests, h) in
    let three : (c == 3) ≡ false = grind (arith, nat_tests, h) in
    by (c == 5) (c == 6) two three
  where
    by : (v w : Bool) → (c == 2) ≡ false → (c == 3) ≡ false → (s : FloatSuffix) × ((if c == 2 then codes "i" else (if c == 3 then codes "u" else (if v then codes "f" else (if w then codes "h" else [])))) ≡ float_bytes s)
    by true w f g = (Single, rw (f, g) refl)
    by false true f g = (Half, rw (f, g) refl)
    by false false f g = (NoFloat, rw (f, g) refl)

-- ---- integers

plain_int : (n : ℕ) (z : Text) (s : IntSuffix) → IsWhole n z → IsNumber (z ++ int_bytes s)
plain_int n z NoInt w = cut_decimal n z [] w refl refl (rw (no_leading n z [] w refl) refl)
plain_int n z Signed w = cut_decimal n z (codes "i") w refl refl (rw (no_leading n z (codes "i") w refl) refl)
plain_int n z Unsigned w = cut_decimal n z (codes "u") w refl refl (rw (no_leading n z (codes "u") w refl) refl)

cut_hex : (z y : Text) → IsNumeral class.HexDigit z → begins_with class.HexDigit y ≡ false → after_hex_whole y ≡ Some [] → IsNumber (codes "0x" ++ (z ++ y))
cut_hex z y w e h =
    let all : all_in class.HexDigit (w.first ∷ w.rest) ≡ true = rw w.digit w.digits in
    let rest : after class.HexDigit (w.first ∷ w.rest ++ y) ≡ y = after_all class.HexDigit (w.first ∷ w.rest) y all e in
    let dot : (w.first == point) ≡ false = hex_never (λ c. c == point) refl w.first w.digit in
    let some : has_hex_digit (w.first ∷ w.rest ++ y) ≡ true = rw (dot, w.digit) refl in
    rw w.is (cut_number 48 (120 ∷ (w.first ∷ w.rest ++ y)) refl (rw (some, rest) h))

hex_int : (z : Text) (s : IntSuffix) → IsNumeral class.HexDigit z → IsNumber (codes "0x" ++ (z ++ int_bytes s))
hex_int z NoInt w = cut_hex z [] w refl refl
hex_int z Signed w = cut_hex z (codes "i") w refl refl
hex_int z Unsigned w = cut_hex z (codes "u") w refl refl

-- ---- floats

exponent_digits : (n : ℕ) (z : Text) (s : FloatSuffix) → IsWhole n z → exponent_from (z ++ float_bytes s) ≡ Some []
exponent_digits n z s w = rw w.is (rw w.digit (ap (λ (x : Text). Some (after_float_suffix x)) (rest s) ∙ end s))
  where
    rest : (q : FloatSuffix) → after class.Digit (w.rest ++ float_bytes q) ≡ float_bytes q
    rest NoFloat = after_all class.Digit w.rest [] w.digits refl
    rest Single = after_all class.Digit w.rest (codes "f") w.digits refl
    rest Half = after_all class.Digit w.rest (codes "h") w.digits refl

    end : (q : FloatSuffix) → Some (after_float_suffix (float_bytes q)) ≡ Some []
    end NoFloat = refl
    end Single = refl
    end Half = refl

no_sign : (n : ℕ) (z y : Text) → IsWhole n z → after_plus_or_minus (z ++ y) ≡ z ++ y
no_sign n z y w = rw w.is (rw (digit_never is_plus_or_minus refl w.first w.digit) refl)

exponent_ends : (e : ℕ) (s : FloatSuffix) → e < 2 ^ 64 → exponent_from (after_plus_or_minus (exponent_text e ++ float_bytes s)) ≡ Some []
exponent_ends e s h = by (nat_lt e bias)
  where
    low : bias - e < 10 ^ 64
    low = omega arith

    high : e - bias < 10 ^ 64
    high = omega (arith, h)

    by : (v : Bool) → exponent_from (after_plus_or_minus ((if v then codes "-" ++ decimal (bias - e) else decimal (e - bias)) ++ float_bytes s)) ≡ Some []
    by true = exponent_digits (bias - e) (decimal (bias - e)) s (whole (bias - e) low)
    by false = let w = whole (e - bias) high in rw (no_sign (e - bias) (decimal (e - bias)) (float_bytes s) w) (exponent_digits (e - bias) (decimal (e - bias)) s w)

-- a number with a point
record IsPointed (z : Text) : Type 0 where
  number : ℕ
  front : Text
  back : Text
  is : z ≡ front ++ point ∷ back
  is_whole : IsWhole number front
  digits : all_in class.Digit back ≡ true

record IsDigit (z : Text) : Type 0 where
  byte : ℕ
  is : z ≡ byte ∷ []
  digit : is_in class.Digit byte ≡ true

one_of : (v : Bool) (x y : Text) → IsDigit x → IsDigit y → IsDigit (if v then x else y)
one_of true x y f g = f
one_of false x y f g = g

digit_is : (d : ℕ) → IsDigit (digit d)
digit_is d =
    one_of (d == 0) _ _ (record { byte = 48; is = refl; digit = refl }) (one_of (d == 1) _ _ (record { byte = 49; is = refl; digit = refl })
    (one_of (d == 2) _ _ (record { byte = 50; is = refl; digit = refl }) (one_of (d == 3) _ _ (record { byte = 51; is = refl; digit = refl })
    (one_of (d == 4) _ _ (record { byte = 52; is = refl; digit = refl }) (one_of (d == 5) _ _ (record { byte = 53; is = refl; digit = refl })
    (one_of (d == 6) _ _ (record { byte = 54; is = refl; digit = refl }) (one_of (d == 7) _ _ (record { byte = 55; is = refl; digit = refl })
    (one_of (d == 8) _ _ (record { byte = 56; is = refl; digit = refl }) (record { byte = 57; is = refl; digit = refl })))))))))

is_pointed : (places value : ℕ) → value < 10 ^ 64 → IsPointed (pointed places value)
is_pointed zero value h = record { number = value; front = decimal value; back = []; is = refl; is_whole = whole value h; digits = refl }
is_pointed (suc places) value h =
    let p = is_pointed places (value / 10) (omega (arith, h)) in
    let d = digit_is (value % 10) in
    let last : all_in class.Digit (digit (value % 10)) ≡ true = rw d.is (rw d.digit refl) in
    record {
      number = p.number;
      front = p.front;
      back = p.back ++ digit (value % 10);
      is = ap (λ (x : Text). x ++ digit (value % 10)) p.is ∙ append_assoc p.front (point ∷ p.back) (digit (value % 10));
      is_whole = p.is_whole;
      digits = all_append class.Digit p.back (digit (value % 10)) p.digits last;
    }

cut_pointed : (z : Text) (s : FloatSuffix) → IsPointed z → IsNumber (z ++ float_bytes s)
cut_pointed z s p = subst IsNumber (sym (ap (λ (x : Text). x ++ float_bytes s) p.is ∙ append_assoc p.front (point ∷ p.back) (float_bytes s))) (by s)
  where
    by : (q : FloatSuffix) → IsNumber (p.front ++ (point ∷ p.back ++ float_bytes q))
    by NoFloat = cut_decimal p.number p.front (point ∷ p.back ++ []) p.is_whole refl refl (rw (after_all class.Digit p.back [] p.digits refl) refl)
    by Single = cut_decimal p.number p.front (point ∷ p.back ++ codes "f") p.is_whole refl refl (rw (after_all class.Digit p.back (codes "f") p.digits refl) refl)
    by Half = cut_decimal p.number p.front (point ∷ p.back ++ codes "h") p.is_whole refl refl (rw (after_all class.Digit p.back (codes "h") p.digits refl) refl)

plain : (n : ℕ) (z : Text) (s : FloatSuffix) → IsWhole n z → IsNumber (z ++ float_bytes s)
plain n z NoFloat w = cut_decimal n z [] w refl refl (rw (no_leading n z [] w refl) refl)
plain n z Single w = cut_decimal n z (codes "f") w refl refl (rw (no_leading n z (codes "f") w refl) refl)
plain n z Half w = cut_decimal n z (codes "h") w refl refl (rw (no_leading n z (codes "h") w refl) refl)

with_exponent : (n e : ℕ) (z : Text) (s : FloatSuffix) → IsWhole n z → e < 2 ^ 64 → IsNumber ((z ++ codes "e" ++ exponent_text e) ++ float_bytes s)
with_exponent n e z s w h =
    let y : Text = exponent_text e ++ float_bytes s in
    let parts : (z ++ codes "e" ++ exponent_text e) ++ float_bytes s ≡ z ++ (small_e ∷ y) = append_assoc (z ++ codes "e") (exponent_text e) (float_bytes s) ∙ append_assoc z (codes "e") y in
    subst IsNumber (sym parts) (cut_decimal n z (small_e ∷ y) w refl refl (exponent_ends e s h))

plain_float_is : (c n : ℕ) (s : FloatSuffix) → n < 10 ^ 64 → IsNumber (plain_float c n ++ float_bytes s)
plain_float_is c n s h = by (c == float_class)
  where
    by : (v : Bool) → IsNumber ((if v then decimal n ++ codes "." else decimal n) ++ float_bytes s)
    by true = cut_pointed (decimal n ++ codes ".") s (is_pointed 0 n h)
    by false = plain n (decimal n) s (whole n h)

decimal_float_is : (c n e : ℕ) (s : FloatSuffix) → n < 10 ^ 64 → e < 2 ^ 64 → IsNumber (decimal_float c n e ++ float_bytes s)
decimal_float_is c n e s h few = by (e == bias) (nat_lt e bias && nat_le (bias - 40) e)
  where
    by : (v w : Bool) → IsNumber ((if v then plain_float c n else (if w then pointed (bias - e) n else decimal n ++ codes "e" ++ exponent_text e)) ++ float_bytes s)
    by true w = plain_float_is c n s h
    by false true = cut_pointed (pointed (bias - e) n) s (is_pointed (bias - e) n h)
    by false false = with_exponent n e (decimal n) s (whole n h) few

hex_float_is : (n e : ℕ) (s : FloatSuffix) → n < 16 ^ 64 → e < 2 ^ 64 → IsNumber ((hexadecimal n ++ codes "p" ++ exponent_text e) ++ float_bytes s)
hex_float_is n e s h few =
    let y : Text = exponent_text e ++ float_bytes s in
    let parts : (hexadecimal n ++ codes "p" ++ exponent_text e) ++ float_bytes s ≡ hexadecimal n ++ (small_p ∷ y) = append_assoc (hexadecimal n ++ codes "p") (exponent_text e) (float_bytes s) ∙ append_assoc (hexadecimal n) (codes "p") y in
    subst IsNumber (sym parts) (cut_hex (digits 16 false n) (small_p ∷ y) (hex_numeral n h) refl (exponent_ends e s few))

-- ---- literals

float_is : (kind bits : ℕ) (s : FloatSuffix) → kind < 2 ^ 64 → bits < 2 ^ 64 → IsNumber (float_text kind bits ++ float_bytes s)
float_is kind bits s h g = by (is_hexadecimal kind)
  where
    small : leading_of kind * 10000000000000000000 + bits < 10 ^ 64
    small = omega (arith, g)

    hex_small : bits < 16 ^ 64
    hex_small = omega (arith, g)

    few : exponent_of kind < 2 ^ 64
    few = omega (arith, h)

    by : (v : Bool) → IsNumber ((if v then hexadecimal bits ++ codes "p" ++ exponent_text (exponent_of kind) else decimal_float (class_of kind) (leading_of kind * 10000000000000000000 + bits) (exponent_of kind)) ++ float_bytes s)
    by true = hex_float_is bits (exponent_of kind) s hex_small few
    by false = decimal_float_is (class_of kind) (leading_of kind * 10000000000000000000 + bits) (exponent_of kind) s small few

integer_is : (kind bits : ℕ) (s : IntSuffix) → bits < 2 ^ 64 → IsNumber (integer_text kind bits ++ int_bytes s)
integer_is kind bits s g = by (is_hexadecimal kind)
  where
    small : bits < 10 ^ 64
    small = omega (arith, g)

    hex_small : bits < 16 ^ 64
    hex_small = omega (arith, g)

    by : (v : Bool) → IsNumber ((if v then hexadecimal bits else decimal bits) ++ int_bytes s)
    by true = hex_int (digits 16 false bits) s (hex_numeral bits hex_small)
    by false = plain_int bits (decimal bits) s (whole bits small)

bool_is : (bits : ℕ) → cut (bool_text bits) ≡ token_and (kind_cut (if bits == 0 then k.False else k.True)) []
unfolding cut group
bool_is bits = by (bits == 0)
  where
    by : (v : Bool) → cut (if v then codes "false" else codes "true") ≡ token_and (kind_cut (if v then k.False else k.True)) []
    by true = refl
    by false = refl

pub literal_number : (kind bits : ℕ) → kind < 2 ^ 64 → bits < 2 ^ 64 → (class_of kind == 0) ≡ false → IsNumber (literal_text kind bits)
unfolding literal_text
literal_number kind bits h g c = rw c (by (nat_lt (class_of kind) 4) refl)
  where
    by : (w : Bool) → nat_lt (class_of kind) 4 ≡ w → IsNumber (if w then integer_text kind bits ++ suffix (class_of kind) else float_text kind bits ++ suffix (class_of kind))
    by true e = let s = int_suffix (class_of kind) e in rw s.1 (integer_is kind bits s.0 g)
    by false e = let s = float_suffix (class_of kind) e in rw s.1 (float_is kind bits s.0 h g)

pub literal_bool : (kind bits : ℕ) → (class_of kind == 0) ≡ true → literal_text kind bits ≡ bool_text bits
unfolding literal_text
literal_bool kind bits c = rw c refl

pub literal_good : (kind bits : ℕ) → kind < 2 ^ 64 → bits < 2 ^ 64 → IsGood (Literal kind bits)
literal_good kind bits h g = by (class_of kind == 0) refl
  where
    by : (v : Bool) → (class_of kind == 0) ≡ v → cut (literal_text kind bits) ≡ token_and (kind_cut (if v then (if bits == 0 then k.False else k.True) else k.Number)) []
    by true c = ap cut (literal_bool kind bits c) ∙ bool_is bits
    by false c = (literal_number kind bits h g c).cut_as

pub number_is : (n : ℕ) → n < 2 ^ 64 → IsNumber (decimal n)
number_is n h = let small : n < 10 ^ 64 = omega (arith, h) in subst IsNumber (append-nil (decimal n)) (plain_int n (decimal n) NoInt (whole n small))

pub number_good : (n : ℕ) → n < 2 ^ 64 → IsGood (Number n)
number_good n h = (number_is n h).cut_as
