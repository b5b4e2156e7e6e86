-- Literals, and operators of one and two operands.
use Rattle.std.specs.Prelude.{ℕ, ◌+◌, ◌-◌, ◌^◌, min, Option, Some, None, Ok, Err}
use Rattle.naga_oil_ir.specs.Parts.{Parts, parts}
use Rattle.naga_oil_ir.specs.declared.expression.Expression.TheVariants as expression
use Rattle.yettuvam_wgsl_arguments.specs.Arguments.{Made, made}
use Rattle.yettuvam_wgsl_machine.specs.Machine.{Node}
use Rattle.yettuvam_wgsl_scope.specs.Refused.{◌>>=◌, fault}
use Rattle.yettuvam_wgsl_scope.specs.declared.refusal.Reason.TheVariants as reason
use Rattle.yettuvam_wgsl_shape.specs.Literals.{literal_of}
use Rattle.yettuvam_wgsl_shape.specs.Operators.{unary_number, binary_number}
use Rattle.yettuvam_wgsl_shape.specs.declared.literal.Literal.{Literal}
use Rattle.yettuvam_wgsl_shape.specs.declared.number.Number.{Number}
use Rattle.yettuvam_wgsl_shape.specs.declared.operators.Outcome.{Outcome as OfNumbers}
use Rattle.yettuvam_wgsl_shape.specs.declared.operators.Outcome.TheVariants.{Known, NotKnown, Overflow}
use Rattle.yettuvam_wgsl_types.specs.declared.shape.Shape.TheVariants as shape
use Rattle.yettuvam_wgsl_values.specs.Body.{State, Done, give, compute, settled, number_value}
use Rattle.yettuvam_wgsl_values.specs.Value.{Value, Plain, Literal as LiteralAt, handle_of}

abbrev pub literal_value : Literal → Value
literal_value l = number_value (LiteralAt l.kind l.bits) shape.Plain l.number

abbrev pub literal_or_fault : Option Literal → Node → State → Done
literal_or_fault (Some l) node s = give (literal_value l) s
literal_or_fault None node s = Err (fault reason.NoNumber node.span)

-- the text of a number
unfoldable pub number : Node → State → Done
number node s = literal_or_fault (literal_of node.text) node s

-- a literal without text
unfoldable pub literal : (kind bits : ℕ) → Number → State → Done
literal kind bits n s = give (number_value (LiteralAt kind bits) shape.Plain (Some n)) s

-- the number that an operation gives; one that doesn't fit its type is a fault
abbrev pub computed : OfNumbers → Node → Made (Option Number)
computed (Known n) node = Ok (Some n)
computed NotKnown node = Ok None
computed Overflow node = Err (fault reason.NoNumber node.span)

-- a computed value without a shape
unfoldable pub give_computed : Parts → Option Number → Node → State → Done
give_computed p n node s = compute p node.span s >>= (λ place. give (number_value (Plain place) shape.Plain n))

unfoldable pub unary : (op : ℕ) → Node → State → Done
unary op node s =
    settled node s >>= (λ v t. made (computed (unary_number op v.number) node) t >>= (λ n.
    give_computed (parts (expression.Unary op (handle_of v))) n node))

-- the right operand is the last value
unfoldable pub binary : (op : ℕ) → Node → State → Done
binary op node s =
    settled node s >>= (λ right t. settled node t >>= (λ left u.
    made (computed (binary_number op left.number right.number) node) u >>= (λ n.
    give_computed (parts (expression.Binary op (handle_of left) (handle_of right))) n node)))

-- something happens whose order matters
abbrev pub with_effect : State → State
with_effect s = record s { effects = min (s.effects + 1) (2 ^ 64 - 1) }
