-- The arguments of a call: their expressions, and what is known of them.
use Rattle.std.specs.Prelude.{ℕ, ◌==◌, if◌then◌else◌, List, [], ◌∷◌, map, ℤ, slice_get, Option, Some, None, option_map, Result, Ok, Err}
use Rattle.naga_oil_ir.specs.declared.types.ArraySize.{ArraySize}
use Rattle.naga_oil_ir.specs.declared.types.ArraySize.TheVariants as size
use Rattle.yettuvam_wgsl_machine.specs.Machine.{Node}
use Rattle.yettuvam_wgsl_names.specs.declared.functions.TheConstants.{ABS, CLAMP, MAX, MIN}
use Rattle.yettuvam_wgsl_scope.specs.Refused.{Outcome, fault}
use Rattle.yettuvam_wgsl_scope.specs.declared.refusal.Fault.{Fault}
use Rattle.yettuvam_wgsl_scope.specs.declared.refusal.Reason.{Reason}
use Rattle.yettuvam_wgsl_scope.specs.declared.refusal.Reason.TheVariants as reason
use Rattle.yettuvam_wgsl_shape.specs.Numbers.{value_of, converted, magnitude, is_unsigned, magnitude_of}
use Rattle.yettuvam_wgsl_shape.specs.Operators.{least, greatest, clamped}
use Rattle.yettuvam_wgsl_shape.specs.declared.number.Number.{Number}
use Rattle.yettuvam_wgsl_shape.specs.declared.number.Kind.TheVariants as kind
use Rattle.yettuvam_wgsl_values.specs.Value as value
use Rattle.yettuvam_wgsl_values.specs.Value.{Value}
use Rattle.yettuvam_wgsl_values.specs.declared.value.Value.{Value as ValueOfCode}

-- what is made of arguments, or a fault
abbrev pub Made : Type 0 → Type 0
Made A = Result A Fault

infixl 10 ◌>=>◌
abbrev pub ◌>=>◌ : {A B : Type 0} → Made A → (A → Made B) → Made B
(Ok a) >=> f = f a
(Err e) >=> f = Err e

-- what is made of arguments, in a step
abbrev pub made : {S A : Type 0} → Made A → S → Outcome S A
made (Ok a) s = Ok (a, s)
made (Err e) s = Err e

abbrev pub or_fault : {A : Type 0} → Reason → Node → Option A → Made A
or_fault why node (Some a) = Ok a
or_fault why node None = Err (fault why node.span)

-- the expression of an argument, if there is one
unfoldable pub handle_at : List Value → ℕ → Option ℕ
handle_at args place = option_map value.handle_of (slice_get args place)

abbrev pub number_in : Option Value → Option Number
number_in (Some v) = v.number
number_in None = None

-- the number that is known of an argument
unfoldable pub number_at : List Value → ℕ → Option Number
number_at args place = number_in (slice_get args place)

-- the expression of an argument that has to be there
unfoldable pub operand_at : List Value → ℕ → Node → Made ℕ
operand_at args place node = or_fault reason.Arguments node (handle_at args place)

-- the expression of a value of the code
abbrev pub handle_in : ValueOfCode → ℕ
handle_in v = value.handle_of (value.value_view v)

-- the expressions of some values
unfoldable pub handles : List Value → List ℕ
handles vs = map value.handle_of vs

abbrev pub absolute : Option Number → Option Number
absolute n = option_map magnitude n

-- the number that a mathematical function of integers gives: abs, min, max and clamp
unfoldable pub math_number : ℕ → List Value → Option Number
math_number code args =
    if code == ABS then absolute (number_at args 0)
    else (if code == MIN then least (number_at args 0) (number_at args 1)
    else (if code == MAX then greatest (number_at args 0) (number_at args 1)
    else (if code == CLAMP then clamped (number_at args 0) (number_at args 1) (number_at args 2) else None)))

-- i32 and u32
abbrev pub converted_to : ℕ → Option Number → Option Number
converted_to scalar n =
    if scalar == 2 then converted kind.Signed n
    else (if scalar == 3 then converted kind.Unsigned n else None)

abbrev pub only_number : List Value → Option Number
only_number (v ∷ []) = v.number
only_number [] = None
only_number (v ∷ w ∷ vs) = None

-- the number that a conversion gives, of one argument to the scalar type with a code
unfoldable pub conversion : Option ℕ → List Value → Option Number
conversion (Some scalar) args = converted_to scalar (only_number args)
conversion None args = None

-- a value that is an unsigned number of 32 bits
abbrev pub natural : ℤ → Option ℕ
natural z = if is_unsigned z then Some (magnitude_of z) else None

abbrev pub size_of : ℕ → Node → Made ArraySize
size_of n node = if n == 0 then Err (fault reason.NoNumber node.span) else Ok (size.Constant n)

abbrev pub size_or_fault : Option ℕ → Node → Made ArraySize
size_or_fault (Some n) node = size_of n node
size_or_fault None node = Err (fault reason.NoNumber node.span)

-- the size of an array: at least 1
unfoldable pub known_size : Number → Node → Made ArraySize
known_size n node = size_or_fault (natural (value_of n)) node
