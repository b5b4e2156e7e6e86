-- Rows: literals and operations on integers, worked by hand from WGSL's text.
use Rattle.std.specs.Prelude.{◌≡◌, ℕ, ◌+◌, ◌-◌, ◌*◌, pos, negsuc, Option, Some, None, codes, refl}
use Rattle.yettuvam_wgsl_shape.specs.Literals.{literal_of, bias}
use Rattle.yettuvam_wgsl_shape.specs.Operators.{unary_number, binary_number, negate, add, multiply, divide, remainder, shift_left, shift_right}
use Rattle.yettuvam_wgsl_shape.specs.declared.literal.Literal.{Literal}
use Rattle.yettuvam_wgsl_shape.specs.declared.number.Number.{Number}
use Rattle.yettuvam_wgsl_shape.specs.declared.number.Number.TheVariants.{Untyped, Signed, Unsigned}
use Rattle.yettuvam_wgsl_shape.specs.declared.operators.Outcome.TheVariants.{Known, Overflow}

-- ---- literals

abbrev pub integer : (kind bits : ℕ) → Number → Option Literal
integer kind bits n = Some (record { kind = kind; bits = bits; number = Some n })

-- a float: its class, the exponent with the bias, its digits
abbrev pub float : (class exponent bits : ℕ) → Option Literal
float class exponent bits = Some (record { kind = class + exponent * 4294967296; bits = bits; number = None })

untyped_42 : literal_of (codes "42") ≡ integer 1 42 (Untyped (pos 42))
unfolding literal_of
untyped_42 = refl

unsigned_ff : literal_of (codes "0xFFu") ≡ integer (3 + 16) 255 (Unsigned 255)
unfolding literal_of
unsigned_ff = refl

greatest_signed : literal_of (codes "2147483647i") ≡ integer 2 2147483647 (Signed (pos 2147483647))
unfolding literal_of
greatest_signed = refl

too_large_signed : literal_of (codes "2147483648i") ≡ None
unfolding literal_of
too_large_signed = refl

too_large_untyped : literal_of (codes "0x8000000000000000") ≡ None
unfolding literal_of
too_large_untyped = refl

-- 1.50 is 150 by ten to the power of -2
decimal_float : literal_of (codes "1.50") ≡ float 4 (bias - 2) 150
unfolding literal_of
decimal_float = refl

with_exponent : literal_of (codes "12E-3f") ≡ float 5 (bias - 3) 12
unfolding literal_of
with_exponent = refl

half : literal_of (codes "1h") ≡ float 6 bias 1
unfolding literal_of
half = refl

-- 0x1.8p3 is 0x18 by two to the power of 3 - 4
hexadecimal_float : literal_of (codes "0x1.8p3") ≡ float (4 + 16) (bias - 1) 24
unfolding literal_of
hexadecimal_float = refl

-- of more than 20 digits the last are dropped: 1.000000000000000000009 keeps 20, of which 1 leads
long_float : literal_of (codes "1.000000000000000000009") ≡ float (4 + 256) (bias - 19) 0
unfolding literal_of
long_float = refl

no_suffix : literal_of (codes "1.0u") ≡ None
unfolding literal_of
no_suffix = refl

-- ---- operations

-- -7 % 3 = -1, -7 / 2 = -3
remainder_row : binary_number remainder (Some (Untyped (negsuc 6))) (Some (Untyped (pos 3))) ≡ Known (Untyped (negsuc 0))
unfolding binary_number
remainder_row = refl

quotient_row : binary_number divide (Some (Untyped (negsuc 6))) (Some (Untyped (pos 2))) ≡ Known (Untyped (negsuc 2))
unfolding binary_number
quotient_row = refl

by_zero : binary_number divide (Some (Unsigned 1)) (Some (Untyped (pos 0))) ≡ Overflow
unfolding binary_number
by_zero = refl

-- i32 wraps, AbstractInt doesn't
wraps : binary_number add (Some (Signed (pos 2147483647))) (Some (Untyped (pos 1))) ≡ Known (Signed (negsuc 2147483647))
unfolding binary_number
wraps = refl

wide : binary_number multiply (Some (Unsigned 4294967295)) (Some (Unsigned 4294967295)) ≡ Known (Unsigned 1)
unfolding binary_number
wide = refl

overflows : binary_number add (Some (Untyped (pos 9223372036854775807))) (Some (Untyped (pos 1))) ≡ Overflow
unfolding binary_number
overflows = refl

-- an AbstractInt of -1 is no u32
misfit : binary_number add (Some (Untyped (negsuc 0))) (Some (Unsigned 1)) ≡ Overflow
unfolding binary_number
misfit = refl

-- 1u << 31u, 1i << 31u and 1i << 32u
shifts : binary_number shift_left (Some (Unsigned 1)) (Some (Unsigned 31)) ≡ Known (Unsigned 2147483648)
unfolding binary_number
shifts = refl

shifts_sign : binary_number shift_left (Some (Signed (pos 1))) (Some (Unsigned 31)) ≡ Overflow
unfolding binary_number
shifts_sign = refl

shifts_far : binary_number shift_right (Some (Signed (pos 1))) (Some (Unsigned 32)) ≡ Overflow
unfolding binary_number
shifts_far = refl

negates : unary_number negate (Some (Untyped (pos 5))) ≡ Known (Untyped (negsuc 4))
unfolding unary_number
negates = refl
