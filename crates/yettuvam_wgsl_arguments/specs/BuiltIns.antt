-- What built-in functions make of their arguments: expressions and statements.
use Rattle.std.specs.Prelude.{ℕ, ◌==◌, if◌then◌else◌, List, [], ◌∷◌, Option, Some, None, Ok}
use Rattle.naga_oil_ir.specs.Body.{Tokens, used, given}
use Rattle.naga_oil_ir.specs.Parts.{Parts, expr, parts}
use Rattle.naga_oil_ir.specs.declared.parts.Named.TheVariants.{Nothing}
use Rattle.naga_oil_ir.specs.declared.expression.Expression.TheVariants as expression
use Rattle.naga_oil_ir.specs.declared.tokens.Token.TheVariants.{Head, Plain, Use, Give}
use Rattle.yettuvam_wgsl_machine.specs.Machine.{Node}
use Rattle.yettuvam_wgsl_names.specs.declared.functions.TheConstants.{ATOMIC_COMPARE_EXCHANGE_WEAK}
use Rattle.yettuvam_wgsl_types.specs.declared.types.TheConstants.{EXCHANGE_RESULT, NOT_TOLD}
use Rattle.yettuvam_wgsl_values.specs.Value.{Value}
use Rattle.yettuvam_wgsl_arguments.specs.Arguments.{Made, ◌>=>◌, handle_at, operand_at}

abbrev pub math_kind : ℕ
math_kind = 27

-- a mathematical function of up to four arguments
unfoldable pub math : ℕ → List Value → Node → Made Parts
math code args node =
    operand_at args 0 node >=> (λ arg.
    Ok (expr math_kind (code ∷ []) Nothing (Some arg ∷ handle_at args 1 ∷ handle_at args 2 ∷ handle_at args 3 ∷ [])))

-- all and any
unfoldable pub relational : ℕ → List Value → Node → Made Parts
relational fun args node = operand_at args 0 node >=> (λ a. Ok (parts (expression.Relational fun a)))

unfoldable pub derivative : ℕ → List Value → Node → Made Parts
derivative axis args node = operand_at args 0 node >=> (λ a. Ok (parts (expression.Derivative axis a)))

-- the second argument if the third holds, else the first
unfoldable pub select : List Value → Node → Made Parts
select args node =
    operand_at args 2 node >=> (λ condition. operand_at args 1 node >=> (λ accept. operand_at args 0 node >=> (λ reject.
    Ok (parts (expression.Select condition accept reject)))))

unfoldable pub array_length : List Value → Node → Made Parts
array_length args node = operand_at args 0 node >=> (λ array. Ok (parts (expression.ArrayLength array)))

-- the type of an atomic function's result, and 1 if it is that of a comparison
abbrev pub atomic_result : ℕ → ℕ × ℕ
atomic_result code = if code == ATOMIC_COMPARE_EXCHANGE_WEAK then (EXCHANGE_RESULT, 1) else (NOT_TOLD, 0)

abbrev pub atomic_tokens : (fun : ℕ) (compare : Option ℕ) (pointer value : ℕ) (result : Option ℕ) → Tokens
atomic_tokens fun compare pointer value result = Head 13 ∷ Plain fun ∷ used compare ∷ Use pointer ∷ Use value ∷ given result ∷ []

-- the pointer, what is compared, and the value
unfoldable pub exchange : ℕ → Option ℕ → List Value → Node → Made Tokens
exchange code result args node =
    operand_at args 0 node >=> (λ pointer. operand_at args 1 node >=> (λ compare. operand_at args 2 node >=> (λ value.
    Ok (atomic_tokens code (Some compare) pointer value result))))

-- the pointer and the value
unfoldable pub plain_atomic : ℕ → Option ℕ → List Value → Node → Made Tokens
plain_atomic code result args node =
    operand_at args 0 node >=> (λ pointer. operand_at args 1 node >=> (λ value.
    Ok (atomic_tokens code None pointer value result)))

-- an atomic function that writes
unfoldable pub atomic : ℕ → Option ℕ → List Value → Node → Made Tokens
atomic code result args node =
    if code == ATOMIC_COMPARE_EXCHANGE_WEAK then exchange code result args node else plain_atomic code result args node

abbrev pub no_scan : ℕ
no_scan = 0

-- a collective operation of a subgroup
unfoldable pub collective : ℕ → ℕ → List Value → Node → Made Tokens
collective op result args node =
    operand_at args 0 node >=> (λ argument. Ok (Head 20 ∷ Plain op ∷ Plain no_scan ∷ Use argument ∷ Give result ∷ []))

-- a read of a value of another invocation of the subgroup
unfoldable pub gather : ℕ → ℕ → List Value → Node → Made Tokens
gather mode result args node =
    operand_at args 0 node >=> (λ argument. Ok (Head 19 ∷ Plain mode ∷ used (handle_at args 1) ∷ Use argument ∷ Give result ∷ []))
