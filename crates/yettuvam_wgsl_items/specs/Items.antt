-- The items so far, and what items take of the values before them.
use Rattle.std.specs.Prelude.{ℕ, List, [], map, Option, None, Ok, Err}
use Rattle.naga_oil_ir.specs.ModuleValue.{ArgumentValue, FunctionValue, EntryValue, argument_value, function_value, entry_value}
use Rattle.naga_oil_ir.specs.Rows.{Row, constant_row, global_row}
use Rattle.naga_oil_ir.specs.declared.module.FunctionResult.{FunctionResult}
use Rattle.naga_oil_ir.specs.declared.span.Span.{Span}
use Rattle.yettuvam_wgsl_attributes.specs.Attributes.{no_attributes}
use Rattle.yettuvam_wgsl_attributes.specs.declared.attributes.Attributes.{Attributes}
use Rattle.yettuvam_wgsl_machine.specs.Machine.{Node}
use Rattle.yettuvam_wgsl_scope.specs.Items.{Name, name_view, name_of, no_name}
use Rattle.yettuvam_wgsl_scope.specs.Refused.{Outcome, ◌>>=◌, done}
use Rattle.yettuvam_wgsl_type_words.specs.Types.{type_of}
use Rattle.yettuvam_wgsl_values.specs.Body as values
use Rattle.yettuvam_wgsl_values.specs.Value.{Value, What, Absent}
use Rattle.yettuvam_wgsl_values.specs.declared.value.Returns.{Returns}
use Rattle.yettuvam_wgsl_values.specs.declared.value.Returns.TheVariants as returns
use Rattle.yettuvam_wgsl_items.specs.Attributes.{attribute_start, attribute_arguments, attribute_end}
use Rattle.yettuvam_wgsl_items.specs.declared.items.Items.{Items}

-- ---- the state

pub record State : Type 0 where
  pub body : values.State
  -- the attributes of the next declaration, and the name of the one that is read
  pub attributes : Attributes
  pub attribute : Name
  -- the name of the member or the argument that is read
  pub part : Name
  -- the function that is read
  pub function : Name
  pub function_attributes : Attributes
  pub arguments : List ArgumentValue
  pub result : Option FunctionResult
  pub returns : Returns
  pub constants : List (Row × Span)
  pub variables : List (Row × Span)
  pub functions : List (FunctionValue × Span)
  pub entries : List EntryValue

abbrev pub state_of : Items → State
state_of m = record {
  body = values.state_of m.body;
  attributes = m.attributes;
  attribute = name_view m.attribute;
  part = name_view m.part;
  function = name_view m.function;
  function_attributes = m.function_attributes;
  arguments = map argument_value m.arguments.items;
  result = m.result;
  returns = m.returns;
  constants = map (λ e. (constant_row e.0, e.1)) m.constants;
  variables = map (λ e. (global_row e.0, e.1)) m.variables;
  functions = map (λ e. (function_value e.0, e.1)) m.functions;
  entries = map entry_value m.entries.items;
}

-- the state before the first item
abbrev pub start : (ranks : List ℕ) → State
start ranks = record {
  body = values.begin ranks;
  attributes = no_attributes;
  attribute = no_name;
  part = no_name;
  function = no_name;
  function_attributes = no_attributes;
  arguments = [];
  result = None;
  returns = returns.Nothing;
  constants = [];
  variables = [];
  functions = [];
  entries = [];
}

abbrev pub Done : Type 0
Done = Outcome State (Unit {0})

abbrev pub with_body : {A : Type 0} → Outcome values.State A → State → Outcome State A
with_body (Ok p) s = Ok (p.0, record s { body = p.1 })
with_body (Err e) s = Err e

-- a step of values and statements
abbrev pub in_body : {A : Type 0} → (values.State → Outcome values.State A) → State → Outcome State A
in_body step s = with_body (step s.body) s

-- ---- what items take of the values before them

-- the type that is the last value
unfoldable pub take_type : Node → values.State → Outcome values.State ℕ
take_type node s = values.take_value node s >>= (λ v. type_of v node)

abbrev pub initial_by : What → Value → Node → values.State → Outcome values.State Value
initial_by Absent v node s = Ok (v, s)
initial_by _ v node s = values.settle v node s

-- a value, read, unless it is left out
unfoldable pub initial : Value → Node → values.State → Outcome values.State Value
initial v node s = initial_by v.what v node s

unfoldable pub take_initial : Node → values.State → Outcome values.State Value
take_initial node s = values.take_value node s >>= (λ v. initial v node)

-- ---- attributes and names

abbrev pub without_attributes : State → State
without_attributes s = record s { attributes = no_attributes }

-- an attribute begins: its arguments are the values from here
unfoldable pub begin_attribute : Node → State → Done
begin_attribute node s = in_body attribute_start (record s { attribute = name_of node })

abbrev pub with_attributes : Attributes → State → Done
with_attributes found s = done (record s { attributes = found })

-- an attribute ends
unfoldable pub end_attribute : Node → State → Done
end_attribute node s = in_body (attribute_end s.attribute s.attributes node) s >>= with_attributes

-- a diagnostic ends, of which nothing is kept
unfoldable pub end_diagnostic : State → Done
end_diagnostic s = in_body attribute_arguments s >>= (λ _. done)

-- the name of a member or an argument
unfoldable pub part_name : Node → State → Done
part_name node s = done (record s { part = name_of node })

-- the name of an alias or a struct
unfoldable pub item_name : Node → State → Done
item_name node s = done (record s { body = values.declare node s.body })
