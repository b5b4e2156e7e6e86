-- Aliases, structs, constants, overrides and variables.
use Rattle.std.specs.Prelude.{ℕ, ◌==◌, if◌then◌else◌, [], ◌∷◌, ◌++◌, length, Option, Some, None, option_map, Ok}
use Rattle.std.specs.Str.Lossy.{utf8_lossy}
use Rattle.naga_oil_ir.specs.Rows.{Row, row, ConstantKind, OverrideKind, GlobalKind}
use Rattle.naga_oil_ir.specs.declared.names.ItemPlace.TheVariants.{TypeItem, ExpressionItem}
use Rattle.naga_oil_ir.specs.declared.span.Span.{Span}
use Rattle.yettuvam_wgsl_attributes.specs.Declarations.{binding_code, resource_code}
use Rattle.yettuvam_wgsl_attributes.specs.declared.attributes.Attributes.{Attributes}
use Rattle.yettuvam_wgsl_lower_declarations.specs.Declarations.{declared_type, variable_type}
use Rattle.yettuvam_wgsl_lower_statements.specs.Statements.{optional_operand}
use Rattle.yettuvam_wgsl_machine.specs.Machine.{Node}
use Rattle.yettuvam_wgsl_names.specs.declared.form_codes.TheConstants.{I32, U32}
use Rattle.yettuvam_wgsl_scope.specs.Items.{Name}
use Rattle.yettuvam_wgsl_scope.specs.Refused.{Outcome, ◌>>=◌}
use Rattle.yettuvam_wgsl_shape.specs.Numbers.{converted}
use Rattle.yettuvam_wgsl_shape.specs.declared.number.Kind.{Kind}
use Rattle.yettuvam_wgsl_shape.specs.declared.number.Kind.TheVariants as kind
use Rattle.yettuvam_wgsl_shape.specs.declared.number.Number.{Number}
use Rattle.yettuvam_wgsl_types.specs.Types as types
use Rattle.yettuvam_wgsl_types.specs.declared.shape.Shape.{Shape}
use Rattle.yettuvam_wgsl_types.specs.declared.shape.Shape.TheVariants as shape
use Rattle.yettuvam_wgsl_values.specs.Body as values
use Rattle.yettuvam_wgsl_values.specs.Value.{Value, What, Space, handle_of}
use Rattle.yettuvam_wgsl_values.specs.declared.value.Meaning.{Meaning}
use Rattle.yettuvam_wgsl_values.specs.declared.value.Meaning.TheVariants as means
use Rattle.yettuvam_wgsl_items.specs.Items.{State, Done, in_body, take_type, take_initial, without_attributes}
use Rattle.yettuvam_wgsl_items.specs.declared.globals.TheConstants.{HANDLE}

-- the place of what is declared
abbrev pub declared_at : values.State → Span
declared_at s = values.span_of s.declared.span

-- ---- types

unfoldable pub add_alias : (base : ℕ) → values.State → Outcome values.State ℕ
add_alias base s = values.in_types (types.alias (values.declared_name s) base (declared_at s)) s

-- `alias`: its name means the type itself
unfoldable pub alias : Node → values.State → values.Done
alias node s = take_type node s >>= (λ base t. add_alias base t >>= (λ _. values.know_item (means.«Type» base)))

abbrev pub member_of : Name → Attributes → (ty : ℕ) → types.MemberValue
member_of name attributes ty = (record { name = Some (utf8_lossy name.text); binding = binding_code attributes; offset = attributes.size }, Some (TypeItem ty))

unfoldable pub push_member : Name → Attributes → (ty : ℕ) → values.State → values.Done
push_member name attributes ty s = values.in_types (types.with_member (member_of name attributes ty)) s

-- a member of the struct that is read, with its attributes
unfoldable pub member : Node → State → Done
member node s = in_body (take_type node) s >>= (λ ty t. in_body (push_member t.part t.attributes ty) (without_attributes t))

unfoldable pub add_struct : values.State → Outcome values.State ℕ
add_struct s = values.in_types (types.struct_end (values.declared_name s) (declared_at s)) s

unfoldable pub struct_end : values.State → values.Done
struct_end s = add_struct s >>= (λ place. values.know_item (means.«Type» place))

-- ---- constants

abbrev pub kind_by : ℕ → Option Kind
kind_by code = if code == I32 then Some kind.Signed else if code == U32 then Some kind.Unsigned else None

-- the kind of the integers of a scalar type, by its code
abbrev pub kind_of : Option ℕ → Option Kind
kind_of None = None
kind_of (Some code) = kind_by code

abbrev pub typed_number : Option Kind → Option Number → Option Number
typed_number (Some kind) number = converted kind number
typed_number None number = None

-- the number of a value of a declared type
abbrev pub number_as : Option ℕ → Option Number → values.State → Option Number
number_as (Some ty) number s = typed_number (kind_of (types.scalar_of s.types ty)) number
number_as None number s = number

abbrev pub constant_of : (ty init : ℕ) → values.State → Row × Span
constant_of ty init s = (row ConstantKind (Some (values.declared_name s)) [] [] (Some (TypeItem ty) ∷ Some (ExpressionItem init) ∷ []), declared_at s)

unfoldable pub push_constant : (ty init : ℕ) → State → Outcome State ℕ
push_constant ty init s = Ok (length s.constants, record s { constants = s.constants ++ constant_of ty init s.body ∷ [] })

unfoldable pub add_constant : (ty : ℕ) → Value → Option Number → State → Done
add_constant ty v number s = push_constant ty (handle_of v) s
    >>= (λ place t. in_body (values.know_item (means.Constant place (types.shape_of t.body.types ty) number)) t)

-- `const`
unfoldable pub constant : Node → State → Done
constant node s = in_body (values.settled node) s >>= (λ v t. in_body (declared_type node) t
    >>= (λ declared u. in_body (variable_type declared v.shape) u >>= (λ ty. add_constant ty v (number_as declared v.number u.body))))

-- ---- overrides

abbrev pub override_of : (ty : ℕ) → (id init : Option ℕ) → values.State → Row × Span
override_of ty id init s = (row OverrideKind (Some (values.declared_name s)) (id ∷ []) [] (Some (TypeItem ty) ∷ option_map ExpressionItem init ∷ []), declared_at s)

unfoldable pub push_override : (ty : ℕ) → (id init : Option ℕ) → values.State → Outcome values.State ℕ
push_override ty id init s = Ok (length s.overrides, record s { overrides = s.overrides ++ override_of ty id init s ∷ [] })

unfoldable pub add_override : (ty : ℕ) → (id init : Option ℕ) → values.State → values.Done
add_override ty id init s = push_override ty id init s >>= (λ place. values.know_item (means.Override place))

-- `override`, with its `@id`
unfoldable pub override_item : Node → State → Done
override_item node s = in_body (take_initial node) s >>= (λ v t. in_body (declared_type node) t
    >>= (λ declared u. in_body (variable_type declared shape.Plain) u
    >>= (λ ty w. in_body (add_override ty w.attributes.id (optional_operand v)) (without_attributes w))))

-- ---- variables

-- a texture or a sampler is no place in memory
abbrev pub variable_meaning : (place space : ℕ) → Shape → Meaning
variable_meaning place space shape = if space == HANDLE then means.Handle place shape else means.Global place shape

abbrev pub space_in : What → ℕ
space_in (Space code) = code
space_in _ = HANDLE

abbrev pub space_of : Value → ℕ
space_of v = space_in v.what

abbrev pub variable_of : (ty space : ℕ) → (binding init : Option ℕ) → values.State → Row × Span
variable_of ty space binding init s = (row GlobalKind (Some (values.declared_name s)) (Some space ∷ binding ∷ []) [] (Some (TypeItem ty) ∷ option_map ExpressionItem init ∷ []), declared_at s)

unfoldable pub push_variable : (ty space : ℕ) → (binding init : Option ℕ) → State → Outcome State ℕ
push_variable ty space binding init s = Ok (length s.variables, record s { variables = s.variables ++ variable_of ty space binding init s.body ∷ [] })

unfoldable pub add_variable : (ty space : ℕ) → (init : Option ℕ) → State → Done
add_variable ty space init s = push_variable ty space (resource_code s.attributes) init (without_attributes s)
    >>= (λ place t. in_body (values.know_item (variable_meaning place space (types.shape_of t.body.types ty))) t)

-- `var`, with its `@group` and `@binding`
unfoldable pub variable : Node → State → Done
variable node s = in_body (take_initial node) s >>= (λ v t. in_body (declared_type node) t
    >>= (λ declared u. in_body (variable_type declared v.shape) u >>= (λ ty w. in_body (values.take_value node) w
    >>= (λ space. add_variable ty (space_of space) (optional_operand v)))))
