-- A module as plain data: all its items, without their addresses in memory.
use Rattle.std.specs.Prelude.{ℕ, List, [], map, Option, None, option_map, string_bytes}
use Rattle.naga_oil_ir.specs.Parts.{Parts, parts}
use Rattle.naga_oil_ir.specs.Rows.{Row, Text, type_row, constant_row, override_row, global_row}
use Rattle.naga_oil_ir.specs.Body.{Tokens, block_tokens}
use Rattle.naga_oil_ir.specs.declared.expression.Expression.{Expression}
use Rattle.naga_oil_ir.specs.declared.module.EntryPoint.{EntryPoint}
use Rattle.naga_oil_ir.specs.declared.module.Function.{Function}
use Rattle.naga_oil_ir.specs.declared.module.FunctionArgument.{FunctionArgument}
use Rattle.naga_oil_ir.specs.declared.module.FunctionResult.{FunctionResult}
use Rattle.naga_oil_ir.specs.declared.module.MeshInfo.{MeshInfo}
use Rattle.naga_oil_ir.specs.declared.module.Module.{Module}
use Rattle.naga_oil_ir.specs.declared.module.SpecialTypes.{SpecialTypes}
use Rattle.naga_oil_ir.specs.declared.span.Span.{Span}
use Rattle.naga_oil_ir.specs.declared.types.LocalVariable.{LocalVariable}

-- an argument of a function
pub record ArgumentValue : Type 0 where
  pub name : Text
  pub ty : ℕ
  pub binding : Option ℕ

abbrev pub argument_value : FunctionArgument → ArgumentValue
argument_value a = record { name = option_map string_bytes a.name; ty = a.ty; binding = a.binding }

-- a local variable
pub record LocalValue : Type 0 where
  pub name : Text
  pub ty : ℕ
  pub init : Option ℕ

abbrev pub local_value : LocalVariable → LocalValue
local_value l = record { name = option_map string_bytes l.name; ty = l.ty; init = l.init }

-- local variables as plain data
abbrev pub local_values : List (LocalVariable × Span) → List (LocalValue × Span)
local_values ls = map (λ l. (local_value l.0, l.1)) ls

-- a function: its expressions by their parts, its body as tokens
pub record FunctionValue : Type 0 where
  pub name : Text
  pub arguments : List ArgumentValue
  pub result : Option FunctionResult
  pub local_variables : List (LocalValue × Span)
  pub expressions : List (Parts × Span)
  pub named_expressions : List (ℕ × List ℕ)
  pub body : Tokens
  pub diagnostic_filter_leaf : Option ℕ

-- expressions with their spans
abbrev pub expression_values : List (Expression × Span) → List (Parts × Span)
expression_values es = map (λ e. (parts e.0, e.1)) es

abbrev pub function_value : Function → FunctionValue
function_value f = record {
  name = option_map string_bytes f.name;
  arguments = map argument_value f.arguments.items;
  result = f.result;
  local_variables = map (λ l. (local_value l.0, l.1)) f.local_variables;
  expressions = expression_values f.expressions;
  named_expressions = map (λ e. (e.0, string_bytes e.1)) f.named_expressions.entries;
  body = block_tokens f.body;
  diagnostic_filter_leaf = f.diagnostic_filter_leaf;
}

-- an entry point
pub record EntryValue : Type 0 where
  pub name : List ℕ
  pub stage : ℕ
  pub early_depth_test : Option ℕ
  pub workgroup_size : List ℕ
  pub workgroup_size_overrides : Option (List (Option ℕ))
  pub function : FunctionValue
  pub mesh_info : Option MeshInfo
  pub task_payload : Option ℕ

abbrev pub entry_value : EntryPoint → EntryValue
entry_value e = record {
  name = string_bytes e.name;
  stage = e.stage;
  early_depth_test = e.early_depth_test;
  workgroup_size = e.workgroup_size;
  workgroup_size_overrides = e.workgroup_size_overrides;
  function = function_value e.function;
  mesh_info = e.mesh_info;
  task_payload = e.task_payload;
}

-- the special types
pub record SpecialValue : Type 0 where
  pub ray_desc : Option ℕ
  pub ray_intersection : Option ℕ
  pub ray_vertex_return : Option ℕ
  pub predeclared_types : List (ℕ × ℕ)

abbrev pub special_value : SpecialTypes → SpecialValue
special_value s = record { ray_desc = s.ray_desc; ray_intersection = s.ray_intersection; ray_vertex_return = s.ray_vertex_return; predeclared_types = s.predeclared_types.entries }

-- a module: its items by their rows
pub record ModuleValue : Type 0 where
  pub types : List (Row × Span)
  pub special_types : SpecialValue
  pub constants : List (Row × Span)
  pub overrides : List (Row × Span)
  pub global_variables : List (Row × Span)
  pub global_expressions : List (Parts × Span)
  pub functions : List (FunctionValue × Span)
  pub entry_points : List EntryValue
  pub diagnostic_filters : List ℕ
  pub diagnostic_filter_leaf : Option ℕ
  pub doc_comments : Option (List ℕ)

abbrev pub module_value : Module → ModuleValue
module_value m = record {
  types = map (λ e. (type_row e.0, e.1)) m.types;
  special_types = special_value m.special_types;
  constants = map (λ e. (constant_row e.0, e.1)) m.constants;
  overrides = map (λ e. (override_row e.0, e.1)) m.overrides;
  global_variables = map (λ e. (global_row e.0, e.1)) m.global_variables;
  global_expressions = expression_values m.global_expressions;
  functions = map (λ e. (function_value e.0, e.1)) m.functions;
  entry_points = map entry_value m.entry_points.items;
  diagnostic_filters = m.diagnostic_filters.items;
  diagnostic_filter_leaf = m.diagnostic_filter_leaf;
  doc_comments = option_map (λ v. v.items) m.doc_comments;
}

-- the module without items
abbrev pub no_items : ModuleValue
no_items = record {
  types = [];
  special_types = record { ray_desc = None; ray_intersection = None; ray_vertex_return = None; predeclared_types = [] };
  constants = [];
  overrides = [];
  global_variables = [];
  global_expressions = [];
  functions = [];
  entry_points = [];
  diagnostic_filters = [];
  diagnostic_filter_leaf = None;
  doc_comments = None;
}
