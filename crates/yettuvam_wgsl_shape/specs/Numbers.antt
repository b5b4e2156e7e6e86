-- Integers and truth values that the front end knows.
use Rattle.std.specs.Prelude.{ℕ, ◌+◌, ◌*◌, ◌%◌, ◌^◌, nat_lt, Bool, true, false, if◌then◌else◌, ℤ, pos, negsuc, int_lt, Option, Some, None, unsigned_abs}
use Rattle.std.specs.Int.{w32, w64, cast_signed, cast_unsigned}
use Rattle.yettuvam_wgsl_shape.specs.declared.number.Kind.{Kind}
use Rattle.yettuvam_wgsl_shape.specs.declared.number.Kind.TheVariants as kind
use Rattle.yettuvam_wgsl_shape.specs.declared.number.Number.{Number}
use Rattle.yettuvam_wgsl_shape.specs.declared.number.Number.TheVariants.{Untyped, Signed, Unsigned, Truth}

abbrev pub truth_value : Bool → ℤ
truth_value false = pos 0
truth_value true = pos 1

-- the value; of a truth value 0 or 1
abbrev pub value_of : Number → ℤ
value_of (Untyped value) = value
value_of (Signed value) = value
value_of (Unsigned value) = pos value
value_of (Truth value) = truth_value value

-- ---- the values of the types

-- -2^bits to 2^bits - 1
abbrev pub is_within : (bits : ℕ) → ℤ → Bool
is_within bits (pos n) = nat_lt n (2 ^ bits)
is_within bits (negsuc n) = nat_lt n (2 ^ bits)

-- a value of AbstractInt, of 64 bits
abbrev pub is_untyped : ℤ → Bool
is_untyped value = is_within 63 value

-- a value of i32
abbrev pub is_signed : ℤ → Bool
is_signed value = is_within 31 value

-- a value of u32
abbrev pub is_unsigned : ℤ → Bool
is_unsigned (pos n) = nat_lt n (2 ^ 32)
is_unsigned (negsuc n) = false

abbrev pub magnitude_of : ℤ → ℕ
magnitude_of value = unsigned_abs value

-- the value as an i32 and as a u32, if it is one
abbrev pub signed_of : ℤ → Option Number
signed_of value = if is_signed value then Some (Signed value) else None

abbrev pub unsigned_of : ℤ → Option Number
unsigned_of value = if is_unsigned value then Some (Unsigned (magnitude_of value)) else None

-- ---- conversions: between i32 and u32 the bits stay, all others keep the value

abbrev pub to_signed : Number → Option Number
to_signed (Unsigned value) = Some (Signed (cast_signed w32 value))
to_signed (Untyped value) = signed_of value
to_signed (Signed value) = signed_of value
to_signed (Truth value) = signed_of (truth_value value)

abbrev pub to_unsigned : Number → Option Number
to_unsigned (Signed value) = Some (Unsigned (cast_unsigned w32 value))
to_unsigned (Untyped value) = unsigned_of value
to_unsigned (Unsigned value) = unsigned_of (pos value)
to_unsigned (Truth value) = unsigned_of (truth_value value)

abbrev pub number_as : Kind → Number → Option Number
number_as kind.Signed number = to_signed number
number_as kind.Unsigned number = to_unsigned number
number_as kind.Untyped number = Some number
number_as kind.Truth number = Some number

-- the number converted to a type, if it is known and has a value of that type
unfoldable pub converted : Kind → Option Number → Option Number
converted kind (Some number) = number_as kind number
converted kind None = None

-- the absolute value; of the least value of a type that value itself
unfoldable pub magnitude : Number → Number
magnitude (Untyped value) = Untyped (cast_signed w64 (unsigned_abs value))
magnitude (Signed value) = Signed (cast_signed w32 (unsigned_abs value))
magnitude (Unsigned value) = Unsigned value
magnitude (Truth value) = Truth value

-- ---- selectors of switches

abbrev pub not_negative_class : ℕ
not_negative_class = 1

abbrev pub negative_class : ℕ
negative_class = 2

abbrev pub signed_class : ℕ
signed_class = 3

abbrev pub unsigned_class : ℕ
unsigned_class = 4

abbrev pub class_of : Number → ℕ
class_of (Untyped value) = if int_lt value (pos 0) then negative_class else not_negative_class
class_of (Signed value) = signed_class
class_of (Unsigned value) = unsigned_class
class_of (Truth value) = not_negative_class

-- the low 32 bits of a value in two's complement
abbrev pub low_bits : ℤ → ℕ
low_bits value = cast_unsigned w64 value % 2 ^ 32

-- the class and the low 32 bits
unfoldable pub selector_code : Number → ℕ
selector_code number = class_of number * 2 ^ 32 + low_bits (value_of number)
