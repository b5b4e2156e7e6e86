-- The inputs and outputs of entry points.
use Rattle.std.specs.Prelude.{ℕ, ◌+◌, ◌*◌, ◌%◌, Bool, true, false, not, ◌==◌, ◌&&◌, ◌||◌, if◌then◌else◌, List, [], ◌∷◌, slice_get, Option, Some, None}
use Rattle.naga_oil_ir.specs.ModuleValue.{ArgumentValue, EntryValue}
use Rattle.naga_oil_ir.specs.Rows.{Row, Member, Kind, TypeKind}
use Rattle.naga_oil_ir.specs.declared.module.FunctionResult.{FunctionResult}
use Rattle.naga_oil_ir.specs.declared.span.Span.{Span}
use Rattle.yettuvam_wgsl_names.specs.declared.form_codes.TheConstants.{BUILT_IN, BUILT_IN_VALUE_UNIT, COMPUTE, INTERPOLATION_UNIT, NO_CLASS, VERTEX}
use Rattle.yettuvam_wgsl_valid_items.specs.Faults.{Outcome, valid, fault, and_then}
use Rattle.yettuvam_wgsl_valid_items.specs.declared.faults.Reason.TheVariants as reason
use Rattle.yettuvam_wgsl_valid.specs.declared.interfaces.TheConstants.{POSITION}

-- ---- bindings of values

-- a value has `@location` or `@builtin`
abbrev pub is_bound : Option ℕ → Bool
is_bound None = false
is_bound (Some code) = not (code % BUILT_IN_VALUE_UNIT == NO_CLASS)

-- a value has `@builtin(position)`
abbrev pub is_position : Option ℕ → Bool
is_position None = false
is_position (Some code) = code % INTERPOLATION_UNIT == BUILT_IN + POSITION * BUILT_IN_VALUE_UNIT

-- each member is bound
abbrev pub are_bound : List Member → Bool
are_bound [] = true
are_bound (m ∷ ms) = is_bound m.binding && are_bound ms

-- a member is a position
abbrev pub have_position : List Member → Bool
have_position [] = false
have_position (m ∷ ms) = is_position m.binding || have_position ms

-- the kind of structs
abbrev pub struct_kind : ℕ
struct_kind = 10

abbrev pub is_struct : Kind → Bool
is_struct (TypeKind k) = k == struct_kind
is_struct k = false

abbrev pub has_bound_members : Row → Bool
has_bound_members r = is_struct r.label.kind && are_bound r.label.members

abbrev pub has_position_member : Row → Bool
has_position_member r = is_struct r.label.kind && have_position r.label.members

abbrev pub row_passes : (Row → Bool) → Option (Row × Span) → Bool
row_passes test None = false
row_passes test (Some e) = test e.0

-- a value is bound, or it is a struct whose members are
abbrev pub is_bound_value : List (Row × Span) → ℕ → Option ℕ → Bool
is_bound_value types ty binding = is_bound binding || row_passes has_bound_members (slice_get types ty)

-- a value is a position, or it is a struct with a member that is one
abbrev pub gives_position : List (Row × Span) → ℕ → Option ℕ → Bool
gives_position types ty binding = is_position binding || row_passes has_position_member (slice_get types ty)

-- ---- entry points

abbrev pub inputs_are_bound : List (Row × Span) → List ArgumentValue → Bool
inputs_are_bound types [] = true
inputs_are_bound types (a ∷ arguments) = is_bound_value types a.ty a.binding && inputs_are_bound types arguments

abbrev pub result_valid : List (Row × Span) → ℕ → FunctionResult → Span → Outcome
result_valid types stage r at =
    if stage == COMPUTE then fault reason.ComputeResult at
    else (if not (is_bound_value types r.ty r.binding) then fault reason.Unbound at
    else (if (stage == VERTEX) && not (gives_position types r.ty r.binding) then fault reason.NoPosition at else valid))

abbrev pub output_valid : List (Row × Span) → ℕ → Option FunctionResult → Span → Outcome
output_valid types stage None at = if stage == VERTEX then fault reason.NoPosition at else valid
output_valid types stage (Some r) at = result_valid types stage r at

-- inputs and outputs are bound, a vertex shader returns a position, and a compute shader returns nothing
abbrev pub interface_valid : List (Row × Span) → EntryValue → Span → Outcome
interface_valid types e at =
    if inputs_are_bound types e.function.arguments then output_valid types e.stage e.function.result at
    else fault reason.Unbound at
