-- Literals: what the text of a number means.
use Rattle.std.specs.Prelude.{ℕ, ◌+◌, ◌-◌, ◌*◌, ◌/◌, ◌%◌, ◌^◌, min, max, nat_lt, nat_le, ◌==◌, Bool, true, false, ◌&&◌, ◌||◌, if◌then◌else◌, List, [], ◌∷◌, pos, Option, Some, None}
use Rattle.std.specs.Char.{to_ascii_lowercase}
use Rattle.yettuvam_wgsl_shape.specs.declared.number.Number.{Number}
use Rattle.yettuvam_wgsl_shape.specs.declared.number.Number.TheVariants.{Untyped, Signed, Unsigned}
use Rattle.yettuvam_wgsl_shape.specs.declared.literal.Literal.{Literal}
use Rattle.yettuvam_wgsl_shape.specs.declared.literal.Base.{Base}
use Rattle.yettuvam_wgsl_shape.specs.declared.literal.Base.TheVariants.{Decimal, Hexadecimal}
use Rattle.yettuvam_wgsl_shape.specs.declared.literal.Significand.{Significand}
use Rattle.yettuvam_wgsl_shape.specs.declared.literal.Exponent.{Exponent}
use Rattle.yettuvam_wgsl_shape.specs.declared.literal.Suffix.{Suffix}
use Rattle.yettuvam_wgsl_shape.specs.declared.literal.Suffix.TheVariants as suffix
use Rattle.yettuvam_wgsl_shape.specs.declared.literal.Parts.{Parts}

abbrev pub Text : Type 0
Text = List ℕ

-- ---- digits

abbrev pub digit_0 : ℕ
digit_0 = 48

abbrev pub digit_9 : ℕ
digit_9 = 57

abbrev pub small_a : ℕ
small_a = 97

abbrev pub small_f : ℕ
small_f = 102

abbrev pub capital_a : ℕ
capital_a = 65

abbrev pub capital_f : ℕ
capital_f = 70

abbrev pub point : ℕ
point = 46

abbrev pub is_between : (low high byte : ℕ) → Bool
is_between low high byte = nat_le low byte && nat_le byte high

abbrev pub decimal_digit : ℕ → Option ℕ
decimal_digit byte = if is_between digit_0 digit_9 byte then Some (byte - digit_0) else None

abbrev pub hex_letter : ℕ → Option ℕ
hex_letter byte =
    if is_between small_a small_f byte then Some (byte - small_a + 10)
    else (if is_between capital_a capital_f byte then Some (byte - capital_a + 10) else None)

abbrev pub or_letter : ℕ → Option ℕ → Option ℕ
or_letter byte (Some digit) = Some digit
or_letter byte None = hex_letter byte

abbrev pub hex_digit : ℕ → Option ℕ
hex_digit byte = or_letter byte (decimal_digit byte)

abbrev pub digit_of : Base → ℕ → Option ℕ
digit_of Decimal byte = decimal_digit byte
digit_of Hexadecimal byte = hex_digit byte

-- ---- the significand: the value of its digits in their base, of which a literal keeps 20, or 16 if it is hexadecimal, after leading zeros

abbrev pub radix : Base → ℕ
radix Decimal = 10
radix Hexadecimal = 16

-- of 20 decimal digits the first 19 are below this, of 16 hexadecimal ones the first 15
abbrev pub limit : Base → ℕ
limit Decimal = 10000000000000000000
limit Hexadecimal = 1152921504606846976

abbrev pub count_fraction : Significand → ℕ
count_fraction s = if s.has_point then s.fraction + 1 else s.fraction

abbrev pub with_digit : Base → Significand → ℕ → Significand
with_digit base s digit =
    if nat_lt s.value (limit base)
    then record s { value = s.value * radix base + digit; fraction = count_fraction s }
    else record s { dropped = s.dropped + 1; fraction = count_fraction s }

abbrev pub with_digit_if : Base → Significand → Option ℕ → Option Significand
with_digit_if base s (Some digit) = Some (with_digit base s digit)
with_digit_if base s None = None

abbrev pub with_byte : Base → Significand → ℕ → Option Significand
with_byte base s byte =
    if byte == point then Some (record s { has_point = true })
    else with_digit_if base s (digit_of base byte)

abbrev pub nothing_read : Significand
nothing_read = record { value = 0; dropped = 0; has_point = false; fraction = 0 }

-- the significand with the digits and points at the front of a text, and the rest
abbrev pub significand_from : Base → Significand → Text → Significand × Text
significand_from base s [] = (s, [])
significand_from base s (byte ∷ rest) =
    elim (with_byte base s byte) [ Some next ↦ significand_from base next rest | None ↦ (s, byte ∷ rest) ]

abbrev pub significand : Base → Text → Significand × Text
significand base text = significand_from base nothing_read text

-- ---- the exponent

-- larger than a text is long
abbrev pub most_exponent : ℕ
most_exponent = 1000000000000000000

abbrev pub with_exponent_digit : ℕ → ℕ → ℕ
with_exponent_digit value digit = min (value * 10 + digit) most_exponent

-- the value with the decimal digits at the front of a text, and the rest
abbrev pub exponent_value_from : ℕ → Text → ℕ × Text
exponent_value_from value [] = (value, [])
exponent_value_from value (byte ∷ rest) =
    elim (decimal_digit byte)
    [ Some digit ↦ exponent_value_from (with_exponent_digit value digit) rest | None ↦ (value, byte ∷ rest) ]

abbrev pub exponent_value : Text → ℕ × Text
exponent_value text = exponent_value_from 0 text

abbrev pub exponent_with : Bool → Text → Exponent × Text
exponent_with is_negative text =
    let read = exponent_value text in
    (record { is_there = true; is_negative = is_negative; value = read.0 }, read.1)

abbrev pub minus : ℕ
minus = 45

abbrev pub plus : ℕ
plus = 43

abbrev pub signed_exponent : Text → Exponent × Text
signed_exponent [] = exponent_with false []
signed_exponent (byte ∷ rest) =
    if byte == minus then exponent_with true rest
    else (if byte == plus then exponent_with false rest else exponent_with false (byte ∷ rest))

-- e, or p after hexadecimal digits
abbrev pub exponent_letter : Base → ℕ
exponent_letter Decimal = 101
exponent_letter Hexadecimal = 112

abbrev pub begins_exponent : Base → ℕ → Bool
begins_exponent base byte = to_ascii_lowercase byte == exponent_letter base

abbrev pub no_exponent : Exponent
no_exponent = record { is_there = false; is_negative = false; value = 0 }

-- the exponent at the front of a text, if there is one, and the rest
abbrev pub exponent : Base → Text → Exponent × Text
exponent base [] = (no_exponent, [])
exponent base (byte ∷ rest) = if begins_exponent base byte then signed_exponent rest else (no_exponent, byte ∷ rest)

-- ---- the suffix

abbrev pub suffix_of_letter : ℕ → Option Suffix
suffix_of_letter byte =
    if byte == 105 then Some suffix.I
    else (if byte == 117 then Some suffix.U
    else (if byte == 102 then Some suffix.F
    else (if byte == 104 then Some suffix.H else None)))

abbrev pub suffix_of : Text → Option Suffix
suffix_of [] = Some suffix.Missing
suffix_of (byte ∷ []) = suffix_of_letter byte
suffix_of (a ∷ b ∷ rest) = None

-- ---- the parts of a literal

-- a hexadecimal digit counts four powers of two
abbrev pub step : Base → ℕ
step Decimal = 1
step Hexadecimal = 4

-- 19 decimal digits, 16 hexadecimal ones
abbrev pub unit : Base → ℕ
unit Decimal = 10000000000000000000
unit Hexadecimal = 18446744073709551616

abbrev pub raising : Exponent → ℕ
raising e = if e.is_negative then 0 else e.value

abbrev pub lowering : Exponent → ℕ
lowering e = if e.is_negative then e.value else 0

abbrev pub bias : ℕ
bias = 2147483648

abbrev pub largest_exponent : ℕ
largest_exponent = 99999

-- the number is the kept digits, as an integer, by this power of ten or two: digits that are dropped raise it, those of the fraction lower it
abbrev pub biased_exponent : Parts → ℕ
biased_exponent p =
    let up = bias + p.significand.dropped * step p.base + raising p.exponent in
    let down = p.significand.fraction * step p.base + lowering p.exponent in
    min (max (up - down) (bias - largest_exponent)) (bias + largest_exponent)

abbrev pub leading_digit : Parts → ℕ
leading_digit p = (p.significand.value / unit p.base) % 16

abbrev pub low_digits : Parts → ℕ
low_digits p = p.significand.value % unit p.base

abbrev pub hex_flag : Base → ℕ
hex_flag Decimal = 0
hex_flag Hexadecimal = 16

-- ---- floats

abbrev pub is_float_suffix : Suffix → Bool
is_float_suffix suffix.F = true
is_float_suffix suffix.H = true
is_float_suffix suffix.Missing = false
is_float_suffix suffix.I = false
is_float_suffix suffix.U = false

-- a point, an exponent or a suffix of floats makes a float
abbrev pub is_float : Parts → Bool
is_float p = p.significand.has_point || (p.exponent.is_there || is_float_suffix p.suffix)

abbrev pub float_class : Suffix → Option ℕ
float_class suffix.Missing = Some 4
float_class suffix.F = Some 5
float_class suffix.H = Some 6
float_class suffix.I = None
float_class suffix.U = None

abbrev pub float_kind : ℕ → Parts → ℕ
float_kind class p = class + hex_flag p.base + leading_digit p * 256 + biased_exponent p * 4294967296

abbrev pub float_with : Parts → Option ℕ → Option Literal
float_with p (Some class) = Some (record { kind = float_kind class p; bits = low_digits p; number = None })
float_with p None = None

abbrev pub float_literal : Parts → Option Literal
float_literal p = float_with p (float_class p.suffix)

-- ---- integers

abbrev pub integer_class : Suffix → ℕ
integer_class suffix.I = 2
integer_class suffix.U = 3
integer_class suffix.Missing = 1
integer_class suffix.F = 1
integer_class suffix.H = 1

-- the greatest i32, u32 and AbstractInt
abbrev pub greatest : Suffix → ℕ
greatest suffix.I = 2 ^ 31 - 1
greatest suffix.U = 2 ^ 32 - 1
greatest suffix.Missing = 2 ^ 63 - 1
greatest suffix.F = 2 ^ 63 - 1
greatest suffix.H = 2 ^ 63 - 1

abbrev pub number_of : Suffix → ℕ → Number
number_of suffix.I value = Signed (pos value)
number_of suffix.U value = Unsigned value
number_of suffix.Missing value = Untyped (pos value)
number_of suffix.F value = Untyped (pos value)
number_of suffix.H value = Untyped (pos value)

abbrev pub integer_kind : Parts → ℕ
integer_kind p = integer_class p.suffix + hex_flag p.base

abbrev pub is_too_large : Parts → Bool
is_too_large p = nat_lt 0 p.significand.dropped || nat_lt (greatest p.suffix) p.significand.value

abbrev pub integer_literal : Parts → Option Literal
integer_literal p =
    if is_too_large p then None
    else Some (record { kind = integer_kind p; bits = p.significand.value; number = Some (number_of p.suffix p.significand.value) })

abbrev pub literal_with : Parts → Option Literal
literal_with p = if is_float p then float_literal p else integer_literal p

abbrev pub literal_of_parts : Base → Significand → Exponent → Option Suffix → Option Literal
literal_of_parts base s e (Some suffix) = literal_with (record { base = base; significand = s; exponent = e; suffix = suffix })
literal_of_parts base s e None = None

-- a significand, maybe an exponent, maybe a suffix
abbrev pub literal_in : Base → Text → Option Literal
literal_in base text =
    let s = significand base text in
    let e = exponent base s.1 in
    literal_of_parts base s.0 e.0 (suffix_of e.1)

abbrev pub small_x : ℕ
small_x = 120

abbrev pub capital_x : ℕ
capital_x = 88

-- 0x or 0X stands before hexadecimal digits
abbrev pub is_hexadecimal : ℕ → ℕ → Bool
is_hexadecimal a b = a == digit_0 && (b == small_x || b == capital_x)

-- the literal that the text of a number means, if its suffix fits, and an integer its type; of texts that are no numbers it has no meaning
unfoldable pub literal_of : Text → Option Literal
literal_of (a ∷ b ∷ rest) = if is_hexadecimal a b then literal_in Hexadecimal rest else literal_in Decimal (a ∷ b ∷ rest)
literal_of (a ∷ []) = literal_in Decimal (a ∷ [])
literal_of [] = literal_in Decimal []
