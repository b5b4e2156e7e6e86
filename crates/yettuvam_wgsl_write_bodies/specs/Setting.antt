-- What writing knows of a function.
use Rattle.std.specs.Prelude.{ℕ, List, map, slice_get, Option, Some, None, option_map}
use Rattle.naga_oil_ir.specs.ModuleValue.{ArgumentValue, FunctionValue, LocalValue, function_value}
use Rattle.naga_oil_ir.specs.Parts.{Parts}
use Rattle.naga_oil_ir.specs.declared.span.Span.{Span}
use Rattle.yettuvam_wgsl_names.specs.Table.{Name}
use Rattle.yettuvam_wgsl_local_names.specs.LocalNames.{Names, names_value}
use Rattle.yettuvam_wgsl_uses.specs.Uses.{Uses, uses_value}
use Rattle.yettuvam_wgsl_written_names.specs.Items.{name_at}
use Rattle.yettuvam_wgsl_write_expressions.specs.Context.{Context, Scope, context_of}
use Rattle.yettuvam_wgsl_write_expressions.specs.declared.shapes.Shape.{Shape}
use Rattle.yettuvam_wgsl_write_bodies.specs.declared.setting.Setting.{Setting as SettingByCode}

-- a module, a function of it, the names that the function declares, how its expressions and locals are written, and the types of
-- the values of its expressions
pub record Setting : Type 0 where
  pub context : Context
  pub function : FunctionValue
  pub names : Names
  pub uses : Uses
  pub shapes : List Shape

abbrev pub setting_of : SettingByCode → Setting
setting_of s = record {
  context = context_of s.context.now;
  function = function_value s.of.now;
  names = names_value s.names.now;
  uses = uses_value s.uses.now;
  shapes = s.shapes.now;
}

-- the types of arguments
abbrev pub argument_types : List ArgumentValue → List ℕ
argument_types arguments = map (λ a. a.ty) arguments

-- where an expression with a span stands
abbrev pub scope : Setting → Span → Scope
scope s span = record {
  context = s.context;
  arguments = s.names.arguments;
  locals = s.names.locals;
  argument_types = argument_types s.function.arguments;
  shapes = s.shapes;
  span = span;
}

-- ---- names

-- the name of an expression, if the text declares it
abbrev pub value_name : Setting → ℕ → Option Name
value_name s place = name_at s.names.values place

abbrev pub local_name : Setting → ℕ → Option Name
local_name s local = name_at s.names.locals local

abbrev pub function_name : Setting → ℕ → Option Name
function_name s function = name_at s.context.names.functions function

-- ---- parts of the function

abbrev pub expression_at : FunctionValue → ℕ → Option Parts
expression_at f place = option_map (λ e. e.0) (slice_get f.expressions place)

abbrev pub type_in : Option (LocalValue × Span) → ℕ
type_in (Some v) = v.0.ty
type_in None = 0

-- the type of a local variable
abbrev pub local_type : FunctionValue → ℕ → ℕ
local_type f local = type_in (slice_get f.local_variables local)
