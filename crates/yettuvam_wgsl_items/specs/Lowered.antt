-- The step of a node, items in their order, and the module.
use Rattle.std.specs.Prelude.{ℕ, ◌==◌, if◌then◌else◌, List, [], ◌∷◌, length, map, slice_get, Option, Some, Result, Ok, Err, Vec}
use Rattle.std.specs.Global.{Global}
use Rattle.naga_oil_ir.specs.ModuleValue.{ModuleValue, no_items}
use Rattle.yettuvam_wgsl_bodies.specs.Step as bodies
use Rattle.yettuvam_wgsl_machine.specs.Machine.{Node}
use Rattle.yettuvam_wgsl_scope.specs.Items.{Item}
use Rattle.yettuvam_wgsl_scope.specs.Names.{Bound, bounds_view}
use Rattle.yettuvam_wgsl_scope.specs.Refused.{◌>>=◌, done, fault}
use Rattle.yettuvam_wgsl_scope.specs.declared.names.Bound.{Bound as BoundOfCode}
use Rattle.yettuvam_wgsl_scope.specs.declared.refusal.Fault.{Fault}
use Rattle.yettuvam_wgsl_scope.specs.declared.refusal.Reason.TheVariants as reason
use Rattle.yettuvam_wgsl_values.specs.Body as values
use Rattle.yettuvam_wgsl_values.specs.declared.value.Meaning.TheVariants as means
use Rattle.yettuvam_wgsl_items.specs.Acts.{act_of}
use Rattle.yettuvam_wgsl_items.specs.Functions.{function_end, function_name, function_result, no_result, parameter}
use Rattle.yettuvam_wgsl_items.specs.Globals.{alias, constant, member, override_item, struct_end, variable}
use Rattle.yettuvam_wgsl_items.specs.Items.{State, Done, start, in_body, begin_attribute, end_attribute, end_diagnostic, item_name, part_name}
use Rattle.yettuvam_wgsl_items.specs.declared.acts.ItemAct.{ItemAct}
use Rattle.yettuvam_wgsl_items.specs.declared.acts.ItemAct.TheVariants as does

-- ---- nodes

-- what ends an item
unfoldable pub item : ItemAct → Node → State → Done
item does.Alias node s = in_body (alias node) s
item does.Struct node s = in_body struct_end s
item does.Constant node s = constant node s
item does.Override node s = override_item node s
item does.Variable node s = variable node s
item does.Function node s = function_end s
item _ node s = done s

-- what stands among items, or in one
unfoldable pub step_by : ItemAct → Bound → State → Done
step_by does.AttributeName bound s = begin_attribute bound.node s
step_by does.Attribute bound s = end_attribute bound.node s
step_by does.Diagnostic bound s = end_diagnostic s
step_by does.Name bound s = item_name bound.node s
step_by does.Part bound s = part_name bound.node s
step_by does.Member bound s = member bound.node s
step_by does.FunctionName bound s = function_name bound.node s
step_by does.Parameter bound s = parameter bound.node s
step_by does.Result bound s = function_result bound.node s
step_by does.NoResult bound s = no_result s
step_by does.Body bound s = in_body (bodies.step bound) s
step_by act bound s = item act bound.node s

unfoldable pub step : Bound → State → Done
step bound s = step_by (act_of bound.node.form) bound s

-- the nodes of an item, one after the other
unfoldable pub run : List Bound → State → Done
run [] s = done s
run (bound ∷ more) s = step bound s >>= (λ _. run more)

-- ---- items

abbrev pub end_named : (length_of_name : ℕ) → State → Done
end_named length_of_name s = if length_of_name == 0 then in_body (values.know_item means.Entry) s else done s

abbrev pub settled : State → State
settled s = record s { body = values.settle_global s.body }

-- an item ends; one without a name means nothing
unfoldable pub end_item : Item → State → Done
end_item i s = end_named (length i.name.text) (settled s)

unfoldable pub lower : Item → List Bound → State → Done
lower i nodes s = run nodes s >>= (λ _. end_item i)

abbrev pub nodes_view : List (Vec BoundOfCode Global) → List (List Bound)
nodes_view nodes = map (λ v. bounds_view v.items) nodes

abbrev pub lower_if : Option Item → Option (List Bound) → State → Done
lower_if (Some i) (Some nodes) s = lower i nodes s
lower_if _ _ s = Err (fault reason.Broken (record { start = 0; end = 0 }))

-- the item at a place of the text
unfoldable pub lower_at : List Item → List (List Bound) → ℕ → State → Done
lower_at items nodes place s = lower_if (slice_get items place) (slice_get nodes place) s

-- the items at places, one after the other
unfoldable pub lower_all : List Item → List (List Bound) → (places : List ℕ) → State → Done
lower_all items nodes [] s = done s
lower_all items nodes (place ∷ places) s = lower_at items nodes place s >>= (λ _. lower_all items nodes places)

-- ---- the module

abbrev pub module_made : State → ModuleValue
module_made s = record no_items {
  types = s.body.types.types;
  constants = s.constants;
  overrides = s.body.overrides;
  global_variables = s.variables;
  global_expressions = s.body.expressions;
  functions = s.functions;
  entry_points = s.entries;
}

abbrev pub module_after : Done → Result ModuleValue Fault
module_after (Ok p) = Ok (module_made p.1)
module_after (Err e) = Err e

-- the module of the items of a text with their nodes; `order` has the places of the items in the order of lowering, and `ranks`
-- the place of each item in that order
abbrev pub module_of : List Item → List (List Bound) → (order ranks : List ℕ) → Result ModuleValue Fault
module_of items nodes order ranks = module_after (lower_all items nodes order (start ranks))
