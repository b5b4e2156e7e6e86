-- The end of a number.
use Rattle.std.specs.Prelude.{ℕ, Bool, false, ◌||◌, ◌&&◌, if◌then◌else◌, ◌==◌, [], ◌∷◌, Option, Some, None}
use Rattle.std.specs.Char.{to_ascii_lowercase}
use Rattle.yettuvam_wgsl_words.specs.declared.class.Class.{Class}
use Rattle.yettuvam_wgsl_words.specs.declared.class.Class.TheVariants as class
use Rattle.yettuvam_wgsl_words.specs.Class.{Text, after, after_byte, begins_with}

abbrev pub point : ℕ
point = 46

abbrev pub digit_zero : ℕ
digit_zero = 48

abbrev pub small_e : ℕ
small_e = 101

abbrev pub small_p : ℕ
small_p = 112

abbrev pub small_x : ℕ
small_x = 120

abbrev pub is_plus_or_minus : ℕ → Bool
is_plus_or_minus byte = byte == 43 || byte == 45

-- f and h
abbrev pub is_float_suffix : ℕ → Bool
is_float_suffix byte = byte == 102 || byte == 104

-- i and u
abbrev pub is_integer_suffix : ℕ → Bool
is_integer_suffix byte = byte == 105 || byte == 117

-- the rest after the first byte, if it passes a test
abbrev pub after_one : (ℕ → Bool) → Text → Text
after_one passes [] = []
after_one passes (byte ∷ rest) = if passes byte then rest else byte ∷ rest

-- digits, maybe after a point
abbrev pub begins_digits : Class → Text → Bool
begins_digits class [] = false
begins_digits class (byte ∷ rest) = if byte == point then begins_with class rest else begins_with class (byte ∷ rest)

abbrev pub begins_number : Text → Bool
begins_number text = begins_digits class.Digit text

abbrev pub has_fraction : Text → Bool
has_fraction [] = false
has_fraction (byte ∷ rest) = byte == point

-- the rest after a fraction, if there is one
abbrev pub after_fraction : Class → Text → Text
after_fraction class [] = []
after_fraction class (byte ∷ rest) = if byte == point then after class rest else byte ∷ rest

-- an exponent begins, with a small or a capital letter
abbrev pub has_exponent : (letter : ℕ) → Text → Bool
has_exponent letter [] = false
has_exponent letter (byte ∷ rest) = to_ascii_lowercase byte == letter

abbrev pub after_plus_or_minus : Text → Text
after_plus_or_minus text = after_one is_plus_or_minus text

abbrev pub after_float_suffix : Text → Text
after_float_suffix text = after_one is_float_suffix text

abbrev pub after_integer_suffix : Text → Text
after_integer_suffix text = after_one is_integer_suffix text

abbrev pub exponent_from : Text → Option Text
exponent_from digits = if begins_with class.Digit digits then Some (after_float_suffix (after class.Digit digits)) else None

-- the rest after an exponent, which has a digit, and a suffix
abbrev pub after_exponent : Text → Option Text
after_exponent text = exponent_from (after_plus_or_minus (after_byte text))

-- an integer has a zero before its other digits
abbrev pub has_leading_zero : Text → Bool
has_leading_zero [] = false
has_leading_zero (byte ∷ rest) = byte == digit_zero && begins_with class.Digit rest

-- the rest after a decimal number, of which `whole` follows the first digits
abbrev pub after_whole : (text whole : Text) → Option Text
after_whole text whole =
    let rest = after_fraction class.Digit whole in
    if has_exponent small_e rest then after_exponent rest
    else (if has_fraction whole then Some (after_float_suffix rest)
    else (if has_leading_zero text then None
    else Some (after_float_suffix (after_integer_suffix rest))))

-- the rest after the digits of a hexadecimal number, of which `whole` follows the first digits
abbrev pub after_hex_whole : (whole : Text) → Option Text
after_hex_whole whole =
    let rest = after_fraction class.HexDigit whole in
    if has_exponent small_p rest then after_exponent rest
    else (if has_fraction whole then Some rest
    else Some (after_integer_suffix rest))

abbrev pub has_hex_digit : Text → Bool
has_hex_digit text = begins_digits class.HexDigit text

-- the rest after what follows 0x
abbrev pub after_hex : Text → Option Text
after_hex text = if has_hex_digit text then after_hex_whole (after class.HexDigit text) else None

abbrev pub begins_hex : Text → Bool
begins_hex (a ∷ b ∷ rest) = a == digit_zero && to_ascii_lowercase b == small_x
begins_hex _ = false

-- the rest after the number that the text begins with, unless that is none of WGSL's
abbrev pub after_number : Text → Option Text
after_number text = if begins_hex text then after_hex (after_byte (after_byte text)) else after_whole text (after class.Digit text)
