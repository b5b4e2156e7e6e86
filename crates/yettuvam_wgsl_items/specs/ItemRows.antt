-- Worked rows: attributes, aliases, numbers of constants, address spaces, arguments, entry points, and the empty module.
use Rattle.std.specs.Prelude.{◌≡◌, ℕ, ◌+◌, ◌*◌, List, [], ◌∷◌, pos, Option, Some, None, Result, Ok, Err, refl}
use Rattle.naga_oil_ir.specs.ModuleValue.{no_items}
use Rattle.yettuvam_wgsl_attributes.specs.Attributes.{no_attributes}
use Rattle.yettuvam_wgsl_attributes.specs.Declarations.{binding_code}
use Rattle.yettuvam_wgsl_attributes.specs.declared.attributes.Attributes.{Attributes}
use Rattle.yettuvam_wgsl_attributes.specs.declared.words.Attribute.TheVariants.{Location}
use Rattle.yettuvam_wgsl_machine.specs.Machine.{Node}
use Rattle.yettuvam_wgsl_machine.specs.declared.symbol.Form.TheVariants as form
use Rattle.yettuvam_wgsl_scope.specs.Items.{no_name}
use Rattle.yettuvam_wgsl_scope.specs.Refused.{Outcome, fault}
use Rattle.yettuvam_wgsl_scope.specs.declared.refusal.Fault.{Fault}
use Rattle.yettuvam_wgsl_scope.specs.declared.refusal.Reason.TheVariants as reason
use Rattle.yettuvam_wgsl_shape.specs.Numbers.{converted}
use Rattle.yettuvam_wgsl_shape.specs.declared.number.Number.TheVariants.{Untyped, Signed}
use Rattle.yettuvam_wgsl_types.specs.Types as types
use Rattle.yettuvam_wgsl_types.specs.declared.shape.Shape.TheVariants as shape
use Rattle.yettuvam_wgsl_types.specs.declared.types.PlainType.TheVariants.{Scalar}
use Rattle.yettuvam_wgsl_values.specs.Body as values
use Rattle.yettuvam_wgsl_values.specs.Value.{Value, Plain, TypeAt, NoSpace, bare}
use Rattle.yettuvam_wgsl_values.specs.declared.value.Meaning.{Meaning}
use Rattle.yettuvam_wgsl_values.specs.declared.value.Meaning.TheVariants as means
use Rattle.yettuvam_wgsl_type_words.specs.Types.{type_of}
use Rattle.yettuvam_wgsl_items.specs.Attributes.{at, known, fitting, number_at, with_number, with_workgroup_size}
use Rattle.yettuvam_wgsl_items.specs.Functions.{argument_number, push_entry, add_entry, add_by_stage, function_end}
use Rattle.yettuvam_wgsl_items.specs.Globals.{add_alias, alias, number_as, space_of}
use Rattle.yettuvam_wgsl_items.specs.Items.{State, start, take_type}
use Rattle.yettuvam_wgsl_items.specs.Lowered.{end_item, lower_at, lower_all, module_of}

abbrev node : Node
node = record { form = form.Name; span = record { start = 3; end = 4 }; text = [] }

abbrev after_values : List Value → values.State
after_values vs = record (values.begin []) { values = vs }

abbrev three : Value
three = values.number_value (Plain 0) shape.Plain (Some (Untyped (pos 3)))

-- ---- attributes

abbrev code_after : Result Attributes Fault → Option ℕ
code_after (Ok found) = binding_code found
code_after (Err e) = None

-- @location(3)
a_location : code_after (with_number Location no_attributes (three ∷ []) node) ≡ Some (3 * 4294967296 + 2)
unfolding with_number number_at at known fitting
a_location = refl

-- @location without a number
no_location : with_number Location no_attributes [] node ≡ Err (fault reason.Arguments node.span)
unfolding with_number number_at at
no_location = refl

-- @workgroup_size()
no_sizes : with_workgroup_size no_attributes [] node (after_values []) ≡ Err (fault reason.Arguments node.span)
unfolding with_workgroup_size
no_sizes = refl

-- ---- global declarations

abbrev items_after : Outcome values.State (Unit {0}) → List Meaning
items_after (Ok p) = p.1.items
items_after (Err e) = []

-- alias A = T
an_alias_means_the_type : items_after (alias node (after_values (bare (TypeAt 7) ∷ []))) ≡ means.«Type» 7 ∷ []
unfolding alias take_type values.take_value type_of add_alias types.alias types.intern values.know_item
an_alias_means_the_type = refl

abbrev with_i32 : values.State
with_i32 = record (values.begin []) { types = record types.none { types = (types.plain_row (Scalar 2), record { start = 0; end = 0 }) ∷ [] } }

-- const N: i32 = 3
a_typed_constant_is_signed : number_as (Some 0) (Some (Untyped (pos 3))) with_i32 ≡ Some (Signed (pos 3))
unfolding types.scalar_of types.row_at converted
a_typed_constant_is_signed = refl

a_texture_has_no_space : space_of (bare NoSpace) ≡ 5
a_texture_has_no_space = refl

-- ---- functions

the_greatest_argument_number : argument_number 4294967296 ≡ 4294967295
the_greatest_argument_number = refl

abbrev meanings_after : Outcome State (Unit {0}) → List Meaning
meanings_after (Ok p) = p.1.body.items
meanings_after (Err e) = []

-- a compute shader is an entry point
a_stage_makes_an_entry_point : meanings_after (function_end (record (start []) { function_attributes = record no_attributes { stage = Some 2 } })) ≡ means.Entry ∷ []
unfolding function_end add_by_stage add_entry push_entry values.know_item
a_stage_makes_an_entry_point = refl

-- ---- items

an_item_without_a_name : meanings_after (end_item (record { name = no_name; start = 0; end = 0 }) (start [])) ≡ means.Entry ∷ []
unfolding end_item values.know_item
an_item_without_a_name = refl

no_item_at_a_place : lower_at [] [] 0 (start []) ≡ Err (fault reason.Broken (record { start = 0; end = 0 }))
unfolding lower_at
no_item_at_a_place = refl

the_empty_module : module_of [] [] [] [] ≡ Ok no_items
unfolding lower_all
the_empty_module = refl
