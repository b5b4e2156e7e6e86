-- Statements in functions.
use Rattle.std.specs.Prelude.{ℕ, Bool, false, if◌then◌else◌, [], ◌∷◌, Option, Some, None, Err}
use Rattle.naga_oil_ir.specs.Body.{used}
use Rattle.naga_oil_ir.specs.Parts.{parts}
use Rattle.naga_oil_ir.specs.declared.expression.Expression.TheVariants as expression
use Rattle.naga_oil_ir.specs.declared.tokens.Token.TheVariants.{Head, Use}
use Rattle.yettuvam_wgsl_machine.specs.Machine.{Node}
use Rattle.yettuvam_wgsl_scope.specs.Refused.{Outcome, ◌>>=◌, done, fault}
use Rattle.yettuvam_wgsl_scope.specs.declared.refusal.Reason.TheVariants as reason
use Rattle.yettuvam_wgsl_shape.specs.declared.number.Number.{Number}
use Rattle.yettuvam_wgsl_shape.specs.Numbers.{value_of}
use Rattle.yettuvam_wgsl_shape.specs.Operators.{is_zero}
use Rattle.yettuvam_wgsl_types.specs.Types as types
use Rattle.yettuvam_wgsl_types.specs.declared.types.PlainType.TheVariants.{Scalar}
use Rattle.yettuvam_wgsl_types.specs.declared.types.TheConstants.{NOT_TOLD}
use Rattle.yettuvam_wgsl_values.specs.Blocks.{block_statement, if_statement, loop_statement}
use Rattle.yettuvam_wgsl_values.specs.Body.{State, Done, take_value, settled, operand, give, put, state, block, without_block, in_types}
use Rattle.yettuvam_wgsl_values.specs.Value.{Value, What, Place, Word, Absent, bare, handle_of}

unfoldable pub store : (pointer value : ℕ) → Node → State → Done
store pointer value node s = state (Head 11 ∷ Use pointer ∷ Use value ∷ []) node.span s

abbrev pub stored_by : What → Value → ℕ → Node → State → Done
stored_by (Place place) target value node s = store (handle_of target) value node s
stored_by (Word name) target value node s = Err (fault reason.UnknownName name.span)
stored_by _ target value node s = Err (fault reason.NoReference node.span)

-- a store to what is assigned to
unfoldable pub stored : Value → ℕ → Node → State → Done
stored target value node s = stored_by target.what target value node s

-- the last value is assigned to the one before it
unfoldable pub assign : Node → State → Done
assign node s = operand node s >>= (λ value t. take_value node t >>= (λ target. stored target value node))

-- the target of an assignment is also an operand
unfoldable pub again : Node → State → Done
again node s = take_value node s >>= (λ target t. give target t >>= (λ _. give target))

unfoldable pub phony_type : State → Outcome State ℕ
phony_type s = in_types (types.plain (Scalar NOT_TOLD)) s

-- an assignment to `_`
unfoldable pub phony : Node → State → Done
phony node s = operand node s >>= (λ value t. phony_type t
    >>= (λ ty u. put (parts (expression.ZeroValue ty)) node.span u >>= (λ place. store place value node)))

-- the last block as a statement
unfoldable pub inner : Node → State → Done
inner node s = state (block_statement (block s)) node.span (without_block s)

-- an `if` of the last two blocks, and the value before them
unfoldable pub if_end : Node → State → Done
if_end node s = operand node s >>= (λ condition t.
    state (if_statement condition (block (without_block t)) (block t)) node.span (without_block (without_block t)))

abbrev pub optional_place : What → ℕ → Option ℕ
optional_place Absent place = None
optional_place _ place = Some place

abbrev pub optional_operand : Value → Option ℕ
optional_operand v = optional_place v.what (handle_of v)

-- a loop of the last two blocks: what continues it, then its body
unfoldable pub loop_end : Node → State → Done
loop_end node s = take_value node s >>= (λ condition t.
    state (loop_statement (block t) (block (without_block t)) (optional_operand condition)) node.span (without_block (without_block t)))

unfoldable pub return_value : Node → State → Done
return_value node s = operand node s >>= (λ value. state (Head 10 ∷ used (Some value) ∷ []) node.span)

abbrev pub is_false_number : Option Number → Bool
is_false_number (Some number) = is_zero (value_of number)
is_false_number None = false

-- a value is known to be false, or 0
abbrev pub is_false : Value → Bool
is_false v = is_false_number v.number

abbrev pub unless_false : Bool → Node → State → Done
unless_false is_false node s = if is_false then Err (fault reason.Assertion node.span) else done s

-- a condition that is known to be false is a fault
unfoldable pub assertion : Node → State → Done
assertion node s = settled node s >>= (λ v. unless_false (is_false v) node)

-- what is left out
unfoldable pub absent : State → Done
absent s = give (bare Absent) s
