-- Worked rows: structs, overrides, variables, constructors, switches and entry points.
use Rattle.std.specs.Prelude.{◌≡◌, refl, ℕ, Bool, true, false, List, [], ◌∷◌, Option, Some, None, option_map, codes}
use Rattle.naga_oil_ir.specs.Body.{Tokens}
use Rattle.naga_oil_ir.specs.ModuleValue.{ArgumentValue, EntryValue}
use Rattle.naga_oil_ir.specs.Parts.{Parts, expr}
use Rattle.naga_oil_ir.specs.Rows.{Row, row, GlobalKind, OverrideKind, TypeKind, Member}
use Rattle.naga_oil_ir.specs.declared.names.ItemPlace.TheVariants.{TypeItem, ExpressionItem}
use Rattle.naga_oil_ir.specs.declared.parts.Named.TheVariants.{TypeOf}
use Rattle.naga_oil_ir.specs.declared.span.Span.{Span}
use Rattle.naga_oil_ir.specs.declared.tokens.Token.TheVariants.{At, Head, Plain, Flag, Use, Open, Close}
use Rattle.yettuvam_wgsl_valid_items.specs.BuiltIns.{is_input_value, is_output_value}
use Rattle.yettuvam_wgsl_valid_items.specs.Constructors.{constructor_valid}
use Rattle.yettuvam_wgsl_valid_items.specs.Distinct.{are_distinct}
use Rattle.yettuvam_wgsl_valid_items.specs.Faults.{valid, fault}
use Rattle.yettuvam_wgsl_valid_items.specs.Members.{type_valid}
use Rattle.yettuvam_wgsl_valid_items.specs.Stages.{slot_of, input_slots, in_slots_valid, out_slots_valid, are_all_sizes}
use Rattle.yettuvam_wgsl_valid_items.specs.Switches.{arm_values, switches_valid}
use Rattle.yettuvam_wgsl_valid_items.specs.Types.{is_not_told, value_count}
use Rattle.yettuvam_wgsl_valid_items.specs.Variables.{ids_valid, override_valid, variable_valid}
use Rattle.yettuvam_wgsl_valid_items.specs.declared.faults.Reason.TheVariants as reason

abbrev here : Span
here = record { start = 5; end = 9 }

abbrev there : Span
there = record { start = 1; end = 2 }

-- ---- numbers

apart : are_distinct (1 ∷ 2 ∷ 3 ∷ []) ≡ true
apart = refl

last_is_first : are_distinct (1 ∷ 2 ∷ 1 ∷ []) ≡ false
last_is_first = refl

-- ---- structs

abbrev member : List ℕ → Option ℕ → Member
member name binding = record { name = Some name; binding = binding; offset = 0 }

abbrev struct_of : List Member → Row
struct_of ms = row (TypeKind 10) None (Some 0 ∷ []) ms []

members_apart : type_valid (struct_of (member (codes "a") None ∷ member (codes "b") None ∷ []), here) ≡ valid
members_apart = refl

-- `struct S { a: i32, b: i32, a: f32 }`
member_twice : type_valid (struct_of (member (codes "a") None ∷ member (codes "b") None ∷ member (codes "a") None ∷ []), here) ≡ fault reason.MemberTwice here
member_twice = refl

-- ---- types

-- what has no written type, `i32`, a struct of two members, `array<i32, 3>`, `array<i32, n>`, and `array<i32>`
abbrev types : List (Row × Span)
types =
    (row (TypeKind 0) None (Some 0 ∷ []) [] [], there)
    ∷ (row (TypeKind 0) None (Some 2 ∷ []) [] [], there)
    ∷ (struct_of (member (codes "a") (Some 2) ∷ member (codes "b") (Some 1025) ∷ []), there)
    ∷ (row (TypeKind 11) None (Some 0 ∷ Some 0 ∷ Some 3 ∷ []) [] [], there)
    ∷ (row (TypeKind 11) None (Some 0 ∷ Some 1 ∷ []) [] [], there)
    ∷ (row (TypeKind 11) None (Some 0 ∷ Some 2 ∷ []) [] [], there)
    ∷ []

not_told : is_not_told types 0 ≡ true
not_told = refl

told : is_not_told types 1 ≡ false
told = refl

-- ---- overrides

abbrev override_of : Option ℕ → ℕ → Option ℕ → Row
override_of id ty value = row OverrideKind None (id ∷ []) [] (Some (TypeItem ty) ∷ option_map ExpressionItem value ∷ [])

-- `override o;`
override_of_nothing : override_valid types (override_of None 0 None, here) ≡ fault reason.NoTypeOrValue here
override_of_nothing = refl

-- `override o: i32;` and `override o = 1;`
override_of_a_type : override_valid types (override_of None 1 None, here) ≡ valid
override_of_a_type = refl

override_of_a_value : override_valid types (override_of None 0 (Some 7), here) ≡ valid
override_of_a_value = refl

same_id : ids_valid ((override_of (Some 3) 1 None, there) ∷ (override_of (Some 4) 1 None, here) ∷ (override_of (Some 3) 1 None, here) ∷ []) ≡ fault reason.IdTwice there
same_id = refl

no_ids : ids_valid ((override_of None 1 None, there) ∷ (override_of None 1 None, here) ∷ []) ≡ valid
no_ids = refl

-- ---- variables

abbrev variable : ℕ → ℕ → Option ℕ → Row
variable space ty value = row GlobalKind None (Some space ∷ None ∷ []) [] (Some (TypeItem ty) ∷ option_map ExpressionItem value ∷ [])

-- `var<private> x = 1;`
private_value : variable_valid types (variable 1 0 (Some 7), here) ≡ valid
private_value = refl

-- `var<private> x;`
private_nothing : variable_valid types (variable 1 0 None, here) ≡ fault reason.NoTypeOrValue here
private_nothing = refl

-- `var<workgroup> x: i32 = 1;`, and `var<storage, read_write> x: i32 = 1;`
workgroup_value : variable_valid types (variable 2 1 (Some 7), here) ≡ fault reason.SpaceValue here
workgroup_value = refl

storage_value : variable_valid types (variable 52 1 (Some 7), here) ≡ fault reason.SpaceValue here
storage_value = refl

-- `var<workgroup> x: i32;`
workgroup_type : variable_valid types (variable 2 1 None, here) ≡ valid
workgroup_type = refl

-- ---- constructors

abbrev composed : ℕ → List (Option ℕ) → Parts × Span
composed ty values = (expr 13 [] (TypeOf ty) values, here)

-- `S(1, 2)` and `S(1)` for two members
two_for_two : constructor_valid types (composed 2 (Some 0 ∷ Some 1 ∷ [])) ≡ valid
two_for_two = refl

one_for_two : constructor_valid types (composed 2 (Some 0 ∷ [])) ≡ fault reason.ValueCount here
one_for_two = refl

-- `array<i32, 3>(1, 2)`, and `array<i32, n>(1, 2)`
two_for_three : constructor_valid types (composed 3 (Some 0 ∷ Some 1 ∷ [])) ≡ fault reason.ValueCount here
two_for_three = refl

count_not_known : constructor_valid types (composed 4 (Some 0 ∷ Some 1 ∷ [])) ≡ valid
count_not_known = refl

-- a sum of two values of no type
no_constructor : constructor_valid types (expr 23 (1 ∷ []) (TypeOf 2) (Some 0 ∷ []), here) ≡ valid
no_constructor = refl

-- ---- switches

-- a statement `switch s { .. }` with its arms
abbrev switch : Tokens → Tokens
switch arms = At here ∷ Head 3 ∷ Use 0 ∷ arms

abbrev empty_arm : ℕ → Tokens → Tokens
empty_arm selector rest = Plain selector ∷ Flag false ∷ Open ∷ Close ∷ rest

-- `switch s { case 1: {} default: {} }`, at the end of a block
one_and_default : arm_values 0 (Use 0 ∷ empty_arm 4294967297 (empty_arm 0 (Close ∷ Plain 4294967298 ∷ []))) ≡ 2 ∷ 0 ∷ []
unfolding arm_values
one_and_default = refl

both_arms : switches_valid (switch (empty_arm 4294967297 (empty_arm 0 []))) ≡ valid
unfolding arm_values
both_arms = refl

-- `switch s { case 1: {} }`
no_default : switches_valid (switch (empty_arm 4294967297 [])) ≡ fault reason.NoDefault here
unfolding arm_values
no_default = refl

-- `switch s { case 1: { switch s { default: {} } } }`
default_inside : switches_valid (At there ∷ Head 3 ∷ Use 0 ∷ Plain 4294967297 ∷ Flag false ∷ Open ∷ switch (empty_arm 0 (Close ∷ []))) ≡ fault reason.NoDefault there
unfolding arm_values
default_inside = refl

-- `switch s { case 5: {} case 5i: {} default: {} }`, and `switch s { default: {} default: {} }`
value_twice : switches_valid (switch (empty_arm 4294967301 (empty_arm 12884901893 (empty_arm 0 [])))) ≡ fault reason.ArmTwice here
unfolding arm_values
value_twice = refl

default_twice : switches_valid (switch (empty_arm 0 (empty_arm 0 []))) ≡ fault reason.ArmTwice here
unfolding arm_values
default_twice = refl

-- `switch s { default: {} } switch s { default: {} }`
one_after_the_other : switches_valid (switch (empty_arm 0 (switch (empty_arm 0 [])))) ≡ valid
unfolding arm_values
one_after_the_other = refl

-- ---- entry points

-- `@builtin(position) @invariant`, and `@location(4) @interpolate(flat)`
invariant_position : slot_of 2098177 ≡ 1025
unfolding slot_of
invariant_position = refl

flat_location : slot_of 17180065794 ≡ 17179869186
unfolding slot_of
flat_location = refl

-- `@location(0) @blend_src(0)` and `@location(0) @blend_src(1)`
blend_sources : are_distinct (slot_of 4194306 ∷ slot_of 8388610 ∷ []) ≡ true
unfolding slot_of
blend_sources = refl

vertex_index_of_a_fragment : is_input_value 1 1 ≡ false
vertex_index_of_a_fragment = refl

position_of_a_fragment : is_input_value 1 4 ≡ true
position_of_a_fragment = refl

subgroup_size_of_compute : is_input_value 2 18 ≡ true
subgroup_size_of_compute = refl

position_as_an_output : is_output_value 0 4 ≡ true
position_as_an_output = refl

position_as_an_output_of_a_fragment : is_output_value 1 4 ≡ false
position_as_an_output_of_a_fragment = refl

abbrev argument : ℕ → Option ℕ → ArgumentValue
argument ty binding = record { name = None; ty = ty; binding = binding }

-- an argument with `@location(4)`, and a struct with `@location(0)` and `@builtin(position)`
slots_of_both : input_slots types (argument 1 (Some 17179869186) ∷ argument 2 None ∷ []) ≡ 17179869186 ∷ 2 ∷ 1025 ∷ []
unfolding slot_of
slots_of_both = refl

location_in_a_fragment : in_slots_valid 1 (2 ∷ 1025 ∷ []) here ≡ valid
location_in_a_fragment = refl

location_in_a_compute_shader : in_slots_valid 2 (2 ∷ []) here ≡ fault reason.WrongStage here
location_in_a_compute_shader = refl

location_twice : in_slots_valid 1 (2 ∷ 1025 ∷ 2 ∷ []) here ≡ fault reason.SlotTwice here
location_twice = refl

position_of_a_fragment_out : out_slots_valid 1 (1025 ∷ []) here ≡ fault reason.WrongStage here
position_of_a_fragment_out = refl

-- `@workgroup_size(4, n)`, and `@workgroup_size(4, 0)`
computed_size : are_all_sizes (4 ∷ 0 ∷ 1 ∷ []) (Some (None ∷ Some 3 ∷ None ∷ [])) ≡ true
computed_size = refl

size_of_zero : are_all_sizes (4 ∷ 0 ∷ 1 ∷ []) None ≡ false
size_of_zero = refl
