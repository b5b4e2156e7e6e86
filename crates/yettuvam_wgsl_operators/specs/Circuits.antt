-- && and ||: a right side that has effects runs in an If.
use Rattle.std.specs.Prelude.{ℕ, ◌-◌, ◌==◌, if◌then◌else◌, List, [], ◌∷◌, ◌++◌, length, slice_index_or, None, Ok}
use Rattle.naga_oil_ir.specs.Body.{Tokens}
use Rattle.naga_oil_ir.specs.ModuleValue.{LocalValue}
use Rattle.naga_oil_ir.specs.Parts.{parts}
use Rattle.naga_oil_ir.specs.declared.expression.Expression.TheVariants as expression
use Rattle.naga_oil_ir.specs.declared.tokens.Token.TheVariants.{Head, Use}
use Rattle.yettuvam_wgsl_machine.specs.Machine.{Node}
use Rattle.yettuvam_wgsl_scope.specs.Refused.{Outcome, ◌>>=◌}
use Rattle.yettuvam_wgsl_types.specs.Types as types
use Rattle.yettuvam_wgsl_types.specs.declared.types.PlainType.TheVariants as plain_type
use Rattle.yettuvam_wgsl_types.specs.declared.types.TheConstants.{NOT_TOLD}
use Rattle.yettuvam_wgsl_values.specs.Blocks.{front, if_statement}
use Rattle.yettuvam_wgsl_values.specs.Body.{State, Done, in_types, span_of, put, compute, state, give, left, operand, open_, close, unfold_, block, without_block}
use Rattle.yettuvam_wgsl_values.specs.Value.{Place, bare}
use Rattle.yettuvam_wgsl_operators.specs.Operators.{binary}

abbrev pub and_code : ℕ
and_code = 17

abbrev pub with_circuit : State → State
with_circuit s = record s { circuits = s.circuits ++ s.effects ∷ [] }

-- the left side is read, and a block begins for what the right side does
unfoldable pub circuit : Node → State → Done
circuit node s = left node s >>= (λ _ t. open_ node (with_circuit t))

abbrev pub unnamed : (ty : ℕ) → LocalValue
unnamed ty = record { name = None; ty = ty; init = None }

abbrev pub with_local : LocalValue → Node → State → Outcome State ℕ
with_local l node s = Ok (length s.locals, record s { locals = s.locals ++ (l, span_of node.span) ∷ [] })

-- a local variable without a name and without a type
unfoldable pub unnamed_local : Node → State → Outcome State ℕ
unnamed_local node s = in_types (types.plain (plain_type.Scalar NOT_TOLD)) s >>= (λ ty. with_local (unnamed ty) node)

-- the expression of a new local variable
unfoldable pub put_local : Node → State → Outcome State ℕ
put_local node s = unnamed_local node s >>= (λ local. put (parts (expression.LocalVariable local)) node.span)

unfoldable pub store : (place value : ℕ) → Node → State → Done
store place value node s = state (Head 11 ∷ Use place ∷ Use value ∷ []) node.span s

-- the right side's value is stored where its block ends, the left side's before the If
unfoldable pub stores : (place value condition : ℕ) → Node → State → Done
stores place value condition node s =
    store place value node s >>= (λ _ t. close node t >>= (λ _. store place condition node))

-- the If of && runs the right side if the left one is true, that of || if it is false
abbrev pub test_of : (op condition : ℕ) → Tokens → Tokens
test_of op condition inner = if op == and_code then if_statement condition inner [] else if_statement condition [] inner

-- the If tests what is stored, and runs the last block
unfoldable pub if_stored : (op place : ℕ) → Node → State → Done
if_stored op place node s =
    compute (parts (expression.Load place)) node.span s >>= (λ loaded t.
    state (test_of op loaded (block t)) node.span (without_block t))

-- the value of a place, read
unfoldable pub give_read : (place : ℕ) → Node → State → Done
give_read place node s = give (bare (Place place)) s >>= (λ _. left node)

-- the right side has effects: it runs in an If
unfoldable pub guarded : (op : ℕ) → Node → State → Done
guarded op node s =
    operand node s >>= (λ value t. operand node t >>= (λ condition u. put_local node u >>= (λ place v.
    stores place value condition node v >>= (λ _ w. if_stored op place node w >>= (λ _. give_read place node)))))

-- the right side has no effects: it is computed like any operand
unfoldable pub unguarded : (op : ℕ) → Node → State → Done
unguarded op node s = left node s >>= (λ _ t. unfold_ node t >>= (λ _. binary op node))

abbrev pub last_count : List ℕ → ℕ
last_count counts = slice_index_or counts (length counts - 1) 0

abbrev pub without_circuit : State → State
without_circuit s = record s { circuits = front s.circuits }

-- the right side ends
unfoldable pub circuit_end : (op : ℕ) → Node → State → Done
circuit_end op node s =
    if last_count s.circuits == s.effects then unguarded op node (without_circuit s)
    else guarded op node (without_circuit s)
