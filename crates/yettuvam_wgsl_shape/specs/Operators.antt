-- Operations on integers and truth values that are known, as WGSL computes constants.
use Rattle.std.specs.Prelude.{ℕ, zero, suc, ◌+◌, ◌-◌, ◌*◌, ◌/◌, ◌%◌, ◌^◌, min, nat_lt, nat_le, ◌==◌, Bool, true, false, not, ◌&&◌, ◌||◌, if◌then◌else◌, ℤ, pos, negsuc, ◌+ℤ◌, ◌-ℤ◌, ◌*ℤ◌, neg_ℤ, int_lt, int_le, int_div, int_rem, bit_and, bit_or, bit_xor, Option, Some, None}
use Rattle.std.specs.Int.{w32, w64, int_wrapping_add, int_wrapping_sub, int_wrapping_mul, int_wrapping_neg, int_bit_and, int_bit_or, int_bit_xor, int_bit_not, int_pow, int_shr}
use Rattle.yettuvam_wgsl_shape.specs.declared.number.Number.{Number}
use Rattle.yettuvam_wgsl_shape.specs.declared.number.Number.TheVariants.{Untyped, Signed, Unsigned, Truth}
use Rattle.yettuvam_wgsl_shape.specs.declared.operators.Outcome.{Outcome}
use Rattle.yettuvam_wgsl_shape.specs.declared.operators.Outcome.TheVariants.{Known, NotKnown, Overflow}
use Rattle.yettuvam_wgsl_shape.specs.declared.operators.Pair.{Pair}
use Rattle.yettuvam_wgsl_shape.specs.declared.operators.Pair.TheVariants as pair
use Rattle.yettuvam_wgsl_shape.specs.Numbers.{is_untyped, is_signed, is_unsigned, magnitude_of}

-- ---- the operators' codes

abbrev pub negate : ℕ
negate = 1

abbrev pub negate_truth : ℕ
negate_truth = 2

abbrev pub complement : ℕ
complement = 3

abbrev pub add : ℕ
add = 1

abbrev pub subtract : ℕ
subtract = 2

abbrev pub multiply : ℕ
multiply = 3

abbrev pub divide : ℕ
divide = 4

abbrev pub remainder : ℕ
remainder = 5

abbrev pub and_bits : ℕ
and_bits = 6

abbrev pub or_bits : ℕ
or_bits = 7

abbrev pub xor_bits : ℕ
xor_bits = 8

abbrev pub shift_left : ℕ
shift_left = 9

abbrev pub shift_right : ℕ
shift_right = 10

abbrev pub equal : ℕ
equal = 11

abbrev pub not_equal : ℕ
not_equal = 12

abbrev pub less : ℕ
less = 13

abbrev pub less_equal : ℕ
less_equal = 14

abbrev pub greater : ℕ
greater = 15

abbrev pub greater_equal : ℕ
greater_equal = 16

abbrev pub both : ℕ
both = 17

abbrev pub either : ℕ
either = 18

abbrev pub is_arithmetic : ℕ → Bool
is_arithmetic op = nat_le add op && nat_le op xor_bits

abbrev pub is_comparison : ℕ → Bool
is_comparison op = nat_le equal op && nat_le op greater_equal

abbrev pub is_shift : ℕ → Bool
is_shift op = op == shift_left || op == shift_right

-- ---- outcomes

abbrev pub truth : Bool → Outcome
truth is_so = Known (Truth is_so)

abbrev pub of_untyped : Option ℤ → Outcome
of_untyped (Some value) = Known (Untyped value)
of_untyped None = Overflow

abbrev pub of_signed : Option ℤ → Outcome
of_signed (Some value) = Known (Signed value)
of_signed None = Overflow

abbrev pub of_unsigned : Option ℕ → Outcome
of_unsigned (Some value) = Known (Unsigned value)
of_unsigned None = Overflow

-- ---- values that fit

abbrev pub untyped_if_fits : ℤ → Option ℤ
untyped_if_fits value = if is_untyped value then Some value else None

abbrev pub signed_if_fits : ℤ → Option ℤ
signed_if_fits value = if is_signed value then Some value else None

abbrev pub unsigned_if_fits : ℤ → Option ℕ
unsigned_if_fits value = if is_unsigned value then Some (magnitude_of value) else None

abbrev pub is_zero : ℤ → Bool
is_zero (pos zero) = true
is_zero (pos (suc n)) = false
is_zero (negsuc n) = false

-- ---- unary operators

-- AbstractInt doesn't wrap
abbrev pub untyped_unary : ℕ → ℤ → Outcome
untyped_unary op value =
    if op == negate then of_untyped (untyped_if_fits (neg_ℤ value))
    else (if op == complement then of_untyped (Some (int_bit_not w64 value)) else NotKnown)

abbrev pub signed_unary : ℕ → ℤ → Outcome
signed_unary op value =
    if op == negate then of_signed (Some (int_wrapping_neg w32 value))
    else (if op == complement then of_signed (Some (int_bit_not w32 value)) else NotKnown)

abbrev pub unsigned_unary : ℕ → ℕ → Outcome
unsigned_unary op value = if op == complement then of_unsigned (Some (2 ^ 32 - 1 - value)) else NotKnown

abbrev pub truth_unary : ℕ → Bool → Outcome
truth_unary op value = if op == negate_truth then truth (not value) else NotKnown

unfoldable pub unary_number : ℕ → Option Number → Outcome
unary_number op None = NotKnown
unary_number op (Some (Untyped value)) = untyped_unary op value
unary_number op (Some (Signed value)) = signed_unary op value
unary_number op (Some (Unsigned value)) = unsigned_unary op value
unary_number op (Some (Truth value)) = truth_unary op value

-- ---- both operands get one type: an AbstractInt takes the other operand's

abbrev pub signed_pair : ℤ → ℤ → Bool → Pair
signed_pair a b is_turned =
    if is_signed a then (if is_turned then pair.Signed b a else pair.Signed a b) else pair.Misfit

abbrev pub unsigned_pair : ℤ → ℕ → Bool → Pair
unsigned_pair a b is_turned =
    if is_unsigned a then (if is_turned then pair.Unsigned b (magnitude_of a) else pair.Unsigned (magnitude_of a) b)
    else pair.Misfit

abbrev pub untyped_with : ℤ → Number → Pair
untyped_with a (Untyped b) = pair.Untyped a b
untyped_with a (Signed b) = signed_pair a b false
untyped_with a (Unsigned b) = unsigned_pair a b false
untyped_with a (Truth b) = pair.Mixed

abbrev pub signed_with : ℤ → Number → Pair
signed_with a (Untyped b) = signed_pair b a true
signed_with a (Signed b) = pair.Signed a b
signed_with a (Unsigned b) = pair.Mixed
signed_with a (Truth b) = pair.Mixed

abbrev pub unsigned_with : ℕ → Number → Pair
unsigned_with a (Untyped b) = unsigned_pair b a true
unsigned_with a (Unsigned b) = pair.Unsigned a b
unsigned_with a (Signed b) = pair.Mixed
unsigned_with a (Truth b) = pair.Mixed

abbrev pub truth_with : Bool → Number → Pair
truth_with a (Truth b) = pair.Truths a b
truth_with a (Untyped b) = pair.Mixed
truth_with a (Signed b) = pair.Mixed
truth_with a (Unsigned b) = pair.Mixed

abbrev pub pair_of : Number → Number → Pair
pair_of (Untyped a) b = untyped_with a b
pair_of (Signed a) b = signed_with a b
pair_of (Unsigned a) b = unsigned_with a b
pair_of (Truth a) b = truth_with a b

-- ---- arithmetic

-- the quotient is rounded toward zero; it must fit, as of a remainder too
abbrev pub untyped_quotient : ℤ → ℤ → ℤ → Option ℤ
untyped_quotient a b value = if not (is_zero b) && is_untyped (int_div a b) then Some value else None

abbrev pub signed_quotient : ℤ → ℤ → ℤ → Option ℤ
signed_quotient a b value = if not (is_zero b) && is_signed (int_div a b) then Some value else None

abbrev pub unsigned_quotient : ℕ → ℕ → Option ℕ
unsigned_quotient b value = if b == 0 then None else Some value

-- AbstractInt doesn't wrap
abbrev pub untyped : ℕ → ℤ → ℤ → Option ℤ
untyped op a b =
    if op == add then untyped_if_fits (a +ℤ b)
    else (if op == subtract then untyped_if_fits (a -ℤ b)
    else (if op == multiply then untyped_if_fits (a *ℤ b)
    else (if op == divide then untyped_quotient a b (int_div a b)
    else (if op == remainder then untyped_quotient a b (int_rem a b)
    else (if op == and_bits then Some (int_bit_and w64 a b)
    else (if op == or_bits then Some (int_bit_or w64 a b)
    else Some (int_bit_xor w64 a b)))))))

abbrev pub signed : ℕ → ℤ → ℤ → Option ℤ
signed op a b =
    if op == add then Some (int_wrapping_add w32 a b)
    else (if op == subtract then Some (int_wrapping_sub w32 a b)
    else (if op == multiply then Some (int_wrapping_mul w32 a b)
    else (if op == divide then signed_quotient a b (int_div a b)
    else (if op == remainder then signed_quotient a b (int_rem a b)
    else (if op == and_bits then Some (int_bit_and w32 a b)
    else (if op == or_bits then Some (int_bit_or w32 a b)
    else Some (int_bit_xor w32 a b)))))))

abbrev pub unsigned : ℕ → ℕ → ℕ → Option ℕ
unsigned op a b =
    if op == add then Some ((a + b) % 2 ^ 32)
    else (if op == subtract then Some ((2 ^ 32 + a - b) % 2 ^ 32)
    else (if op == multiply then Some ((a * b) % 2 ^ 32)
    else (if op == divide then unsigned_quotient b (a / b)
    else (if op == remainder then unsigned_quotient b (a % b)
    else (if op == and_bits then Some (bit_and a b)
    else (if op == or_bits then Some (bit_or a b)
    else Some (bit_xor a b)))))))

abbrev pub int_eq : ℤ → ℤ → Bool
int_eq a b = int_le a b && int_le b a

abbrev pub compared : ℕ → ℤ → ℤ → Bool
compared op a b =
    if op == equal then int_eq a b
    else (if op == not_equal then not (int_eq a b)
    else (if op == less then int_lt a b
    else (if op == less_equal then int_le a b
    else (if op == greater then int_lt b a else int_le b a))))

abbrev pub is_same : Bool → Bool → Bool
is_same true b = b
is_same false b = not b

abbrev pub of_truths : ℕ → Bool → Bool → Outcome
of_truths op a b =
    if op == and_bits || op == both then truth (a && b)
    else (if op == or_bits || op == either then truth (a || b)
    else (if op == equal then truth (is_same a b)
    else (if op == not_equal then truth (not (is_same a b)) else NotKnown)))

abbrev pub arithmetic : ℕ → Pair → Outcome
arithmetic op (pair.Untyped a b) = of_untyped (untyped op a b)
arithmetic op (pair.Signed a b) = of_signed (signed op a b)
arithmetic op (pair.Unsigned a b) = of_unsigned (unsigned op a b)
arithmetic op _ = NotKnown

abbrev pub comparison : ℕ → Pair → Outcome
comparison op (pair.Untyped a b) = truth (compared op a b)
comparison op (pair.Signed a b) = truth (compared op a b)
comparison op (pair.Unsigned a b) = truth (compared op (pos a) (pos b))
comparison op _ = NotKnown

abbrev pub of_integers : ℕ → Pair → Outcome
of_integers op operands =
    if is_arithmetic op then arithmetic op operands
    else (if is_comparison op then comparison op operands else NotKnown)

abbrev pub of_pair : ℕ → Pair → Outcome
of_pair op (pair.Truths a b) = of_truths op a b
of_pair op pair.Misfit = Overflow
of_pair op (pair.Untyped a b) = of_integers op (pair.Untyped a b)
of_pair op (pair.Signed a b) = of_integers op (pair.Signed a b)
of_pair op (pair.Unsigned a b) = of_integers op (pair.Unsigned a b)
of_pair op pair.Mixed = of_integers op pair.Mixed

-- ---- shifts: to the left the value is multiplied and must fit; an i32 or u32 shifts by less than its 32 bits

abbrev pub type_bits : ℕ
type_bits = 32

abbrev pub most_shift : ℕ
most_shift = 63

abbrev pub product_with : ℤ → Option ℤ → Option ℤ
product_with value (Some power) = untyped_if_fits (value *ℤ power)
product_with value None = None

-- the value multiplied by 2^count, both within 64 bits
abbrev pub raised : ℤ → ℕ → Option ℤ
raised value count = product_with value (untyped_if_fits (int_pow (pos 2) count))

abbrev pub signed_within : Option ℤ → Option ℤ
signed_within (Some value) = signed_if_fits value
signed_within None = None

abbrev pub unsigned_within : Option ℤ → Option ℕ
unsigned_within (Some value) = unsigned_if_fits value
unsigned_within None = None

abbrev pub signed_raised : ℤ → ℕ → Option ℤ
signed_raised value count = if nat_le type_bits count then None else signed_within (raised value count)

abbrev pub unsigned_raised : ℕ → ℕ → Option ℕ
unsigned_raised value count = if nat_le type_bits count then None else unsigned_within (raised (pos value) count)

abbrev pub shifted_left : Number → ℕ → Outcome
shifted_left (Untyped value) count = of_untyped (raised value count)
shifted_left (Signed value) count = of_signed (signed_raised value count)
shifted_left (Unsigned value) count = of_unsigned (unsigned_raised value count)
shifted_left (Truth value) count = NotKnown

abbrev pub signed_lowered : ℤ → ℕ → Option ℤ
signed_lowered value count = if nat_lt count type_bits then Some (int_shr value count) else None

abbrev pub unsigned_lowered : ℕ → ℕ → Option ℕ
unsigned_lowered value count = if nat_lt count type_bits then Some (value / 2 ^ count) else None

abbrev pub shifted_right : Number → ℕ → Outcome
shifted_right (Untyped value) count = of_untyped (Some (int_shr value (min count most_shift)))
shifted_right (Signed value) count = of_signed (signed_lowered value count)
shifted_right (Unsigned value) count = of_unsigned (unsigned_lowered value count)
shifted_right (Truth value) count = NotKnown

abbrev pub shift_by : ℕ → Number → ℕ → Outcome
shift_by op number count = if op == shift_left then shifted_left number count else shifted_right number count

-- a count is a u32, or an AbstractInt that fits it
abbrev pub shift : ℕ → Number → Number → Outcome
shift op number (Unsigned count) = shift_by op number count
shift op number (Untyped count) = if is_unsigned count then shift_by op number (magnitude_of count) else Overflow
shift op number (Signed count) = NotKnown
shift op number (Truth count) = NotKnown

-- ---- what callers use

abbrev pub of_both : ℕ → Number → Number → Outcome
of_both op a b = if is_shift op then shift op a b else of_pair op (pair_of a b)

unfoldable pub binary_number : ℕ → Option Number → Option Number → Outcome
binary_number op (Some a) (Some b) = of_both op a b
binary_number op (Some a) None = NotKnown
binary_number op None b = NotKnown

-- the first operand if the comparison holds, else the second
abbrev pub chosen : ℕ → Pair → Option Number
chosen op (pair.Untyped a b) = Some (Untyped (if compared op a b then a else b))
chosen op (pair.Signed a b) = Some (Signed (if compared op a b then a else b))
chosen op (pair.Unsigned a b) = Some (Unsigned (if compared op (pos a) (pos b) then a else b))
chosen op _ = None

abbrev pub choice : ℕ → Option Number → Option Number → Option Number
choice op (Some a) (Some b) = chosen op (pair_of a b)
choice op (Some a) None = None
choice op None b = None

unfoldable pub least : Option Number → Option Number → Option Number
least a b = choice less a b

unfoldable pub greatest : Option Number → Option Number → Option Number
greatest a b = choice greater a b

-- x held between low and high
unfoldable pub clamped : (x low high : Option Number) → Option Number
clamped x low high = least (greatest x low) high
