-- Calls of built-in functions, by the class of their code.
use Rattle.std.specs.Prelude.{ℕ, ◌/◌, ◌==◌, Bool, ◌||◌, if◌then◌else◌, List, [], ◌∷◌, Some, None, Ok, Err}
use Rattle.naga_oil_ir.specs.Body.{Tokens, used}
use Rattle.naga_oil_ir.specs.Parts.{Parts, parts}
use Rattle.naga_oil_ir.specs.declared.expression.Expression.TheVariants as expression
use Rattle.naga_oil_ir.specs.declared.tokens.Token.TheVariants.{Head, Plain as PlainToken, Use, Give}
use Rattle.yettuvam_wgsl_arguments.specs.Arguments.{made, handle_at, math_number}
use Rattle.yettuvam_wgsl_arguments.specs.BuiltIns as arguments
use Rattle.yettuvam_wgsl_machine.specs.Machine.{Node}
use Rattle.yettuvam_wgsl_names.specs.declared.functions.TheConstants.{CLASS_SIZE, ATOMIC, BARRIER, COLLECTIVE, DERIVATIVE, GATHER, MATH, RELATIONAL, SAMPLING, TEXTURE}
use Rattle.yettuvam_wgsl_names.specs.declared.functions.TheConstants.{ARRAY_LENGTH, ATOMIC_LOAD, ATOMIC_STORE, FREXP, MODF, SELECT, SUBGROUP_BALLOT, SUBGROUP_ELECT, WORKGROUP_UNIFORM_LOAD}
use Rattle.yettuvam_wgsl_operators.specs.Operators.{give_computed, with_effect}
use Rattle.yettuvam_wgsl_scope.specs.Refused.{Outcome, ◌>>=◌, fault}
use Rattle.yettuvam_wgsl_scope.specs.declared.refusal.Reason.TheVariants as reason
use Rattle.yettuvam_wgsl_types.specs.Types as types
use Rattle.yettuvam_wgsl_types.specs.declared.shape.Shape.{Shape}
use Rattle.yettuvam_wgsl_types.specs.declared.shape.Shape.TheVariants as shape
use Rattle.yettuvam_wgsl_types.specs.declared.types.PlainType.TheVariants as plain_type
use Rattle.yettuvam_wgsl_types.specs.declared.types.TheConstants.{FREXP_RESULT, MODF_RESULT, NOT_TOLD}
use Rattle.yettuvam_wgsl_values.specs.Body.{State, Done, in_types, put, compute, state, give, flush, number_value}
use Rattle.yettuvam_wgsl_values.specs.Value.{Value, Plain, Nothing, bare, shaped, handle_of}
use Rattle.yettuvam_wgsl_calls.specs.Textures.{sample_texture, texture}

-- the pseudo-type of what a function returns
unfoldable pub result_type : ℕ → State → Outcome State ℕ
result_type code s = in_types (types.plain (plain_type.Scalar code)) s

abbrev pub shape_at : ℕ → State → Outcome State Shape
shape_at place s = Ok (shape.Of place, s)

unfoldable pub result_shape : ℕ → State → Outcome State Shape
result_shape code s = result_type code s >>= shape_at

-- modf and frexp return structs
unfoldable pub math_shape : ℕ → State → Outcome State Shape
math_shape code s =
    if code == MODF then result_shape MODF_RESULT s
    else (if code == FREXP then result_shape FREXP_RESULT s else Ok (shape.Plain, s))

-- a mathematical function
unfoldable pub math : ℕ → List Value → Node → State → Done
math code args node s =
    math_shape code s >>= (λ sh t. made (arguments.math code args node) t >>= (λ p u.
    compute p node.span u >>= (λ place. give (number_value (Plain place) sh (math_number code args)))))

-- atomicLoad, which is computed where it stands
unfoldable pub atomic_load : List Value → Node → State → Done
atomic_load args node s = math ATOMIC_LOAD args node (with_effect s) >>= (λ _. flush node.span)

unfoldable pub relate : ℕ → List Value → Node → State → Done
relate code args node s = made (arguments.relational code args node) s >>= (λ p. give_computed p None node)

unfoldable pub derive : ℕ → List Value → Node → State → Done
derive code args node s = made (arguments.derivative code args node) s >>= (λ p. give_computed p None node)

-- an atomic function whose result isn't used
unfoldable pub atomic_statement : ℕ → List Value → Node → State → Done
atomic_statement code args node s =
    made (arguments.atomic code None args node) s >>= (λ tokens t. state tokens node.span t >>= (λ _. give (bare Nothing)))

abbrev pub atomic_parts : (code ty : ℕ) → Parts
atomic_parts code ty = parts (expression.AtomicResult ty (arguments.atomic_result code).1)

unfoldable pub put_atomic : (code ty : ℕ) → Node → State → Outcome State ℕ
put_atomic code ty node s = put (atomic_parts code ty) node.span s

unfoldable pub give_atomic : (code ty : ℕ) → List Value → Node → State → Done
give_atomic code ty args node s =
    let sh = types.shape_of s.types ty in
    put_atomic code ty node s >>= (λ place t. made (arguments.atomic code (Some place) args node) t >>= (λ tokens u.
    state tokens node.span u >>= (λ _. give (shaped (Plain place) sh))))

-- an atomic function with its result
unfoldable pub atomic_value : ℕ → List Value → Node → State → Done
atomic_value code args node s = result_type (arguments.atomic_result code).0 s >>= (λ ty. give_atomic code ty args node)

abbrev pub atomic_by : ℕ → Bool → List Value → Node → State → Done
atomic_by code is_statement args node s =
    if is_statement || code == ATOMIC_STORE then atomic_statement code args node s else atomic_value code args node s

-- an atomic function that writes
unfoldable pub write_atomic : ℕ → Bool → List Value → Node → State → Done
write_atomic code is_statement args node s = atomic_by code is_statement args node (with_effect s)

unfoldable pub barrier : ℕ → Node → State → Done
barrier code node s = state (Head 8 ∷ PlainToken code ∷ []) node.span (with_effect s) >>= (λ _. give (bare Nothing))

-- the expression of the result of an operation of the subgroup
unfoldable pub put_operation : Node → State → Outcome State ℕ
put_operation node s =
    result_type NOT_TOLD (with_effect s) >>= (λ ty. put (parts (expression.SubgroupOperationResult ty)) node.span)

-- a statement, and the expression of its result
unfoldable pub state_result : Tokens → (place : ℕ) → Node → State → Done
state_result tokens place node s = state tokens node.span s >>= (λ _. give (bare (Plain place)))

-- a collective operation of the subgroup
unfoldable pub operate : ℕ → List Value → Node → State → Done
operate code args node s =
    put_operation node s >>= (λ place t. made (arguments.collective code place args node) t >>= (λ tokens.
    state_result tokens place node))

-- a read of another invocation's value
unfoldable pub gather_value : ℕ → List Value → Node → State → Done
gather_value code args node s =
    put_operation node s >>= (λ place t. made (arguments.gather code place args node) t >>= (λ tokens.
    state_result tokens place node))

unfoldable pub choose : List Value → Node → State → Done
choose args node s = made (arguments.select args node) s >>= (λ p. give_computed p None node)

unfoldable pub measure : List Value → Node → State → Done
measure args node s = made (arguments.array_length args node) s >>= (λ p. give_computed p None node)

-- the expression of what workgroupUniformLoad reads, of the type of a shape
unfoldable pub put_uniform : Shape → Node → State → Outcome State ℕ
put_uniform sh node s =
    in_types (types.type_of sh) s >>= (λ ty. put (parts (expression.WorkGroupUniformLoadResult ty)) node.span)

unfoldable pub load_uniform : Value → Node → State → Done
load_uniform v node s =
    put_uniform v.shape node s >>= (λ place t.
    state (Head 15 ∷ Use (handle_of v) ∷ Give place ∷ []) node.span t >>= (λ _. give (shaped (Plain place) v.shape)))

abbrev pub uniform_of : List Value → Node → State → Done
uniform_of (v ∷ []) node s = load_uniform v node s
uniform_of [] node s = Err (fault reason.Arguments node.span)
uniform_of (v ∷ w ∷ vs) node s = Err (fault reason.Arguments node.span)

unfoldable pub uniform_load : List Value → Node → State → Done
uniform_load args node s = uniform_of args node (with_effect s)

-- subgroupBallot and subgroupElect
unfoldable pub ballot : List Value → Node → State → Done
ballot args node s =
    put (parts expression.SubgroupBallotResult) node.span (with_effect s) >>= (λ place.
    state_result (Head 18 ∷ Give place ∷ used (handle_at args 0) ∷ []) place node)

unfoldable pub other : ℕ → List Value → Node → State → Done
other code args node s =
    if code == SELECT then choose args node s
    else (if code == ARRAY_LENGTH then measure args node s
    else (if code == WORKGROUP_UNIFORM_LOAD then uniform_load args node s
    else (if code == SUBGROUP_BALLOT || code == SUBGROUP_ELECT then ballot args node s
    else Err (fault reason.Template node.span))))

abbrev pub in_class : (class code : ℕ) → Bool → List Value → Node → State → Done
in_class class code is_statement args node s =
    if class == MATH then math code args node s
    else (if class == RELATIONAL then relate code args node s
    else (if class == DERIVATIVE then derive code args node s
    else (if class == SAMPLING then sample_texture code args node s
    else (if class == TEXTURE then texture code args node s
    else (if class == ATOMIC then write_atomic code is_statement args node s
    else (if class == BARRIER then barrier code node s
    else (if class == COLLECTIVE then operate code args node s
    else (if class == GATHER then gather_value code args node s
    else other code args node s))))))))

unfoldable pub by_class : ℕ → Bool → List Value → Node → State → Done
by_class code is_statement args node s = in_class (code / CLASS_SIZE) code is_statement args node s

-- a call of a built-in function
unfoldable pub built_in : ℕ → Bool → List Value → Node → State → Done
built_in code is_statement args node s =
    if code == ATOMIC_LOAD then atomic_load args node s else by_class code is_statement args node s
