-- How literals are spelled.
use Rattle.std.specs.Prelude.{ℕ, zero, suc, false, ◌+◌, ◌-◌, ◌*◌, ◌/◌, ◌%◌, ◌==◌, ◌&&◌, nat_lt, nat_le, if◌then◌else◌, Bool, List, [], ◌++◌, codes}
use Rattle.std.specs.Fmt.{decimal, digits}

-- ---- the parts of a literal's kind

-- the bits 0 to 3: bool, an integer without suffix, i32, u32, a float without suffix, f32, f16
abbrev pub class_of : ℕ → ℕ
class_of kind = kind % 16

abbrev pub is_hexadecimal : ℕ → Bool
is_hexadecimal kind = (kind / 16) % 2 == 1

-- the digit before the 19 digits of the bits
abbrev pub leading_of : ℕ → ℕ
leading_of kind = (kind / 256) % 16

-- the exponent, with 2^31 added
abbrev pub exponent_of : ℕ → ℕ
exponent_of kind = kind / 4294967296

-- the exponent 0
abbrev pub bias : ℕ
bias = 2147483648

-- the most digits after the point of a number without exponent
abbrev pub most_places : ℕ
most_places = 40

abbrev pub float_class : ℕ
float_class = 4

-- ---- texts

abbrev pub suffix : ℕ → List ℕ
suffix class =
    if class == 2 then codes "i"
    else (if class == 3 then codes "u"
    else (if class == 5 then codes "f"
    else (if class == 6 then codes "h" else [])))

abbrev pub digit : ℕ → List ℕ
digit d =
    if d == 0 then codes "0"
    else (if d == 1 then codes "1"
    else (if d == 2 then codes "2"
    else (if d == 3 then codes "3"
    else (if d == 4 then codes "4"
    else (if d == 5 then codes "5"
    else (if d == 6 then codes "6"
    else (if d == 7 then codes "7"
    else (if d == 8 then codes "8" else codes "9"))))))))

-- a number's decimal digits, with a point before the last ones
abbrev pub pointed : ℕ → ℕ → List ℕ
pointed zero value = decimal value ++ codes "."
pointed (suc places) value = pointed places (value / 10) ++ digit (value % 10)

abbrev pub exponent_text : ℕ → List ℕ
exponent_text e = if nat_lt e bias then codes "-" ++ decimal (bias - e) else decimal (e - bias)

abbrev pub hexadecimal : ℕ → List ℕ
hexadecimal n = codes "0x" ++ digits 16 false n

-- a decimal float without its suffix. One without suffix has a point
abbrev pub plain_float : ℕ → ℕ → List ℕ
plain_float class value = if class == float_class then decimal value ++ codes "." else decimal value

abbrev pub decimal_float : ℕ → ℕ → ℕ → List ℕ
decimal_float class value e =
    if e == bias then plain_float class value
    else (if nat_lt e bias && nat_le (bias - most_places) e then pointed (bias - e) value
    else decimal value ++ codes "e" ++ exponent_text e)

abbrev pub float_text : ℕ → ℕ → List ℕ
float_text kind bits =
    if is_hexadecimal kind then hexadecimal bits ++ codes "p" ++ exponent_text (exponent_of kind)
    else decimal_float (class_of kind) (leading_of kind * 10000000000000000000 + bits) (exponent_of kind)

abbrev pub integer_text : ℕ → ℕ → List ℕ
integer_text kind bits = if is_hexadecimal kind then hexadecimal bits else decimal bits

abbrev pub bool_text : ℕ → List ℕ
bool_text bits = if bits == 0 then codes "false" else codes "true"

-- a literal of a kind, as the intermediate form keeps it
unfoldable pub literal_text : ℕ → ℕ → List ℕ
literal_text kind bits =
    if class_of kind == 0 then bool_text bits
    else (if nat_lt (class_of kind) float_class then integer_text kind bits ++ suffix (class_of kind)
    else float_text kind bits ++ suffix (class_of kind))
