-- The inputs and outputs of entry points, and the sizes of workgroups.
use Rattle.std.specs.Prelude.{ℕ, ◌+◌, ◌*◌, ◌/◌, ◌%◌, Bool, true, false, not, ◌==◌, ◌&&◌, ◌||◌, if◌then◌else◌, List, [], ◌∷◌, ◌++◌, is_some, Option, Some, None}
use Rattle.naga_oil_ir.specs.ModuleValue.{ArgumentValue, EntryValue}
use Rattle.naga_oil_ir.specs.Rows.{Row, Member}
use Rattle.naga_oil_ir.specs.declared.module.FunctionResult.{FunctionResult}
use Rattle.naga_oil_ir.specs.declared.span.Span.{Span}
use Rattle.yettuvam_wgsl_names.specs.declared.form_codes.TheConstants.{ALIGN_UNIT, BLEND_SRC_UNIT, BUILT_IN_VALUE_UNIT, COMPUTE, INTERPOLATION_UNIT, LOCATION, LOCATION_UNIT, NO_CLASS}
use Rattle.yettuvam_wgsl_valid_items.specs.BuiltIns.{is_input_value, is_output_value}
use Rattle.yettuvam_wgsl_valid_items.specs.Distinct.{are_distinct}
use Rattle.yettuvam_wgsl_valid_items.specs.Faults.{Outcome, valid, fault, and_then}
use Rattle.yettuvam_wgsl_valid_items.specs.Types.{row_at}
use Rattle.yettuvam_wgsl_valid_items.specs.declared.faults.Reason.TheVariants as reason

-- ---- slots

-- where a value is passed: the class, the built-in value, the number of `@blend_src` and the location of a binding
unfoldable pub slot_of : ℕ → ℕ
slot_of binding =
    binding % INTERPOLATION_UNIT + binding % ALIGN_UNIT / BLEND_SRC_UNIT * BLEND_SRC_UNIT + binding / LOCATION_UNIT * LOCATION_UNIT

-- the slot of a value, if it has `@builtin` or `@location`
abbrev pub bound_slot : Option ℕ → Option ℕ
bound_slot None = None
bound_slot (Some code) = if not (code % BUILT_IN_VALUE_UNIT == NO_CLASS) then Some (slot_of code) else None

abbrev pub listed : Option ℕ → List ℕ
listed None = []
listed (Some slot) = slot ∷ []

-- the slots of members
abbrev pub member_slots : List Member → List ℕ
member_slots [] = []
member_slots (m ∷ ms) = listed (bound_slot m.binding) ++ member_slots ms

abbrev pub slots_or : Option ℕ → List ℕ → List ℕ
slots_or (Some slot) slots = listed (Some slot)
slots_or None slots = slots

-- the slots of the members of a type
abbrev pub slots_at : Option Row → List ℕ
slots_at None = []
slots_at (Some r) = member_slots r.label.members

-- the slot of a value, or the slots of its members
abbrev pub slots_of : List (Row × Span) → ℕ → Option ℕ → List ℕ
slots_of types ty binding = slots_or (bound_slot binding) (slots_at (row_at types ty))

-- the slots of the inputs
abbrev pub input_slots : List (Row × Span) → List ArgumentValue → List ℕ
input_slots types [] = []
input_slots types (a ∷ arguments) = slots_of types a.ty a.binding ++ input_slots types arguments

-- the slots of the outputs
abbrev pub output_slots : List (Row × Span) → Option FunctionResult → List ℕ
output_slots types None = []
output_slots types (Some r) = slots_of types r.ty r.binding

-- ---- what stages have

abbrev pub is_location : ℕ → Bool
is_location slot = slot % BUILT_IN_VALUE_UNIT == LOCATION

-- the built-in value of a slot
abbrev pub value_in : ℕ → ℕ
value_in slot = slot % INTERPOLATION_UNIT / BUILT_IN_VALUE_UNIT

-- compute shaders have no locations
abbrev pub is_input : ℕ → ℕ → Bool
is_input stage slot = if is_location slot then not (stage == COMPUTE) else is_input_value stage (value_in slot)

abbrev pub is_output : ℕ → ℕ → Bool
is_output stage slot = is_location slot || is_output_value stage (value_in slot)

abbrev pub are_inputs : ℕ → List ℕ → Bool
are_inputs stage [] = true
are_inputs stage (s ∷ ss) = is_input stage s && are_inputs stage ss

abbrev pub are_outputs : ℕ → List ℕ → Bool
are_outputs stage [] = true
are_outputs stage (s ∷ ss) = is_output stage s && are_outputs stage ss

-- the stage has these slots, and no slot stands twice
abbrev pub slots_valid : Bool → List ℕ → Span → Outcome
slots_valid has_them slots at =
    if not has_them then fault reason.WrongStage at
    else (if not (are_distinct slots) then fault reason.SlotTwice at else valid)

abbrev pub in_slots_valid : ℕ → List ℕ → Span → Outcome
in_slots_valid stage slots at = slots_valid (are_inputs stage slots) slots at

abbrev pub out_slots_valid : ℕ → List ℕ → Span → Outcome
out_slots_valid stage slots at = slots_valid (are_outputs stage slots) slots at

abbrev pub inputs_valid : List (Row × Span) → EntryValue → Span → Outcome
inputs_valid types e at = in_slots_valid e.stage (input_slots types e.function.arguments) at

abbrev pub outputs_valid : List (Row × Span) → EntryValue → Span → Outcome
outputs_valid types e at = out_slots_valid e.stage (output_slots types e.function.result) at

-- ---- workgroups

abbrev pub first_computed : List (Option ℕ) → Option ℕ
first_computed [] = None
first_computed (c ∷ cs) = c

abbrev pub rest_computed : List (Option ℕ) → List (Option ℕ)
rest_computed [] = []
rest_computed (c ∷ cs) = cs

-- a size is computed, or it isn't 0
abbrev pub is_size : ℕ → Option ℕ → Bool
is_size size None = not (size == 0)
is_size size (Some expression) = true

abbrev pub are_sizes : List ℕ → List (Option ℕ) → Bool
are_sizes [] computed = true
are_sizes (n ∷ ns) computed = is_size n (first_computed computed) && are_sizes ns (rest_computed computed)

abbrev pub are_all_sizes : List ℕ → Option (List (Option ℕ)) → Bool
are_all_sizes sizes None = are_sizes sizes []
are_all_sizes sizes (Some computed) = are_sizes sizes computed

abbrev pub has_workgroup : EntryValue → Bool
has_workgroup e = are_all_sizes e.workgroup_size e.workgroup_size_overrides

-- a compute shader's sizes aren't 0, and other shaders have none
abbrev pub workgroup_valid : EntryValue → Span → Outcome
workgroup_valid e at =
    if e.stage == COMPUTE then (if not (has_workgroup e) then fault reason.WorkgroupSize at else valid)
    else (if is_some e.workgroup_size_overrides then fault reason.WorkgroupSize at else valid)

-- ---- entry points

-- the stage has the inputs and outputs, none stands twice, and just compute shaders have a workgroup
abbrev pub stage_valid : List (Row × Span) → EntryValue → Span → Outcome
stage_valid types e at = and_then (inputs_valid types e at) (and_then (outputs_valid types e at) (workgroup_valid e at))
