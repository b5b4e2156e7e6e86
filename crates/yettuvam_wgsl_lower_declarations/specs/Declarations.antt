-- Declarations in functions.
use Rattle.std.specs.Prelude.{ℕ, if◌then◌else◌, not, [], ◌∷◌, ◌++◌, length, Option, Some, None, Ok, Err}
use Rattle.naga_oil_ir.specs.Parts.{parts}
use Rattle.naga_oil_ir.specs.declared.expression.Expression.TheVariants as expression
use Rattle.naga_oil_ir.specs.declared.tokens.Token.TheVariants.{Head, Use}
use Rattle.yettuvam_wgsl_machine.specs.Machine.{Node}
use Rattle.yettuvam_wgsl_names.specs.declared.form_codes.TheConstants.{CONST_COPY, LET_COPY}
use Rattle.yettuvam_wgsl_scope.specs.Refused.{Outcome, ◌>>=◌, done, fault}
use Rattle.yettuvam_wgsl_scope.specs.declared.refusal.Reason.TheVariants as reason
use Rattle.yettuvam_wgsl_type_words.specs.Types.{type_of}
use Rattle.yettuvam_wgsl_types.specs.Types as types
use Rattle.yettuvam_wgsl_types.specs.declared.types.TheConstants.{TYPED_CONST, TYPED_LET}
use Rattle.yettuvam_wgsl_types.specs.declared.shape.Shape.{Shape}
use Rattle.yettuvam_wgsl_types.specs.declared.shape.Shape.TheVariants as shape
use Rattle.yettuvam_wgsl_values.specs.Body.{State, Done, take_value, settled, settle, put, state, flush, name_expression, declared_name, know, span_of, in_types}
use Rattle.yettuvam_wgsl_values.specs.Value.{Value, What, Pointer, Plain, Absent, shaped, handle_of}
use Rattle.yettuvam_wgsl_values.specs.declared.value.Meaning.TheVariants as means
use Rattle.yettuvam_wgsl_lower_statements.specs.Naming.{takes_name, copy, marked, named}

abbrev pub optional_type_by : What → Value → Node → State → Outcome State (Option ℕ)
optional_type_by Absent v node s = Ok (None, s)
optional_type_by _ v node s = type_of v node s >>= (λ ty t. Ok (Some ty, t))

-- the type that a value says, or none where it is left out
unfoldable pub optional_type : Value → Node → State → Outcome State (Option ℕ)
optional_type v node s = optional_type_by v.what v node s

unfoldable pub declared_type : Node → State → Outcome State (Option ℕ)
declared_type node s = take_value node s >>= (λ v. optional_type v node)

-- ---- `let` and `const`

unfoldable pub let_copied : Value → Node → State → Done
let_copied v node s = copy v LET_COPY node s >>= (λ place. named place v.shape None node)

-- the value under a name of its own, or a copy of it
unfoldable pub let_untyped : Value → Node → State → Done
let_untyped v node s = if takes_name (handle_of v) s then named (handle_of v) v.shape None node s else let_copied v node s

-- the value, marked as of a type
unfoldable pub let_typed : Value → ℕ → Node → State → Done
let_typed v ty node s = marked v ty TYPED_LET node s >>= (λ place t. named place (types.shape_of t.types ty) None node t)

unfoldable pub name_place : ℕ → Node → State → Done
name_place place node s = if not (takes_name place s) then done s else name_expression place s >>= (λ _. flush node.span)

-- a pointer is no copy: its name means the place
unfoldable pub let_pointer : ℕ → Shape → Node → State → Done
let_pointer place shape node s = name_place place node s >>= (λ _. know (means.Pointer place shape))

abbrev pub let_if : Option ℕ → Value → Node → State → Done
let_if (Some ty) v node s = let_typed v ty node s
let_if None v node s = let_untyped v node s

-- a value that is no pointer
unfoldable pub let_copy : Value → Option ℕ → Node → State → Done
let_copy v ty node s = let_if ty v node s

abbrev pub let_by : What → Value → Option ℕ → Node → State → Done
let_by (Pointer place) v ty node s = let_pointer place v.shape node s
let_by _ v ty node s = let_copy v ty node s

unfoldable pub let_value : Value → Option ℕ → Node → State → Done
let_value v ty node s = let_by v.what v ty node s

unfoldable pub let_ : Node → State → Done
let_ node s = settled node s >>= (λ v t. declared_type node t >>= (λ ty. let_value v ty node))

unfoldable pub const_typed : Value → ℕ → Node → State → Done
const_typed v ty node s = marked v ty TYPED_CONST node s >>= (λ place t. named place (types.shape_of t.types ty) v.number node t)

unfoldable pub const_untyped : Value → Node → State → Done
const_untyped v node s = copy v CONST_COPY node s >>= (λ place. named place v.shape v.number node)

abbrev pub const_by : Option ℕ → Value → Node → State → Done
const_by (Some ty) v node s = const_typed v ty node s
const_by None v node s = const_untyped v node s

unfoldable pub local_const : Node → State → Done
local_const node s = settled node s >>= (λ v t. declared_type node t >>= (λ ty. const_by ty v node))

-- ---- `var`

abbrev pub variable_type_by : Option ℕ → Shape → State → Outcome State ℕ
variable_type_by (Some ty) shape s = Ok (ty, s)
variable_type_by None shape s = in_types (types.type_of shape) s

-- the declared type, or that of the value's shape
unfoldable pub variable_type : Option ℕ → Shape → State → Outcome State ℕ
variable_type ty shape s = variable_type_by ty shape s

unfoldable pub zero_value : ℕ → Node → State → Outcome State Value
zero_value ty node s = put (parts (expression.ZeroValue ty)) node.span s >>= (λ place t. Ok (shaped (Plain place) shape.Plain, t))

abbrev pub zero_if : Option ℕ → Node → State → Outcome State Value
zero_if (Some ty) node s = zero_value ty node s
zero_if None node s = Err (fault reason.NoType node.span)

-- a variable that is given no value is zero, and has a type
unfoldable pub no_value : Option ℕ → Node → State → Outcome State Value
no_value ty node s = zero_if ty node s

abbrev pub first_by : What → Value → Option ℕ → Node → State → Outcome State Value
first_by Absent v ty node s = no_value ty node s
first_by _ v ty node s = settle v node s

-- the first value of a variable; without one the zero of its type
unfoldable pub first_value : Value → Option ℕ → Node → State → Outcome State Value
first_value v ty node s = first_by v.what v ty node s

-- a local variable, under the name that is declared
unfoldable pub local : ℕ → State → Outcome State ℕ
local ty s = Ok (length s.locals, record s { locals = s.locals ++ (record { name = Some (declared_name s); ty = ty; init = None }, span_of s.declared.span) ∷ [] })

-- the first store to a variable, which declares it
unfoldable pub store_first : (variable value : ℕ) → Node → State → Done
store_first variable value node s = put (parts (expression.LocalVariable variable)) node.span s
    >>= (λ place. state (Head 11 ∷ Use place ∷ Use value ∷ []) node.span)

unfoldable pub stored_local : (ty value : ℕ) → Node → State → Done
stored_local ty value node s = local ty s >>= (λ place t. store_first place value node t
    >>= (λ _ u. know (means.Variable place (types.shape_of u.types ty)) u))

unfoldable pub local_var : Node → State → Done
local_var node s = take_value node s >>= (λ given t. declared_type node t
    >>= (λ ty u. first_value given ty node u >>= (λ v w. take_value node w
    >>= (λ space x. variable_type ty v.shape x >>= (λ found. stored_local found (handle_of v) node)))))
