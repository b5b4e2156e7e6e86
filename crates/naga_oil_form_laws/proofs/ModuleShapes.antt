-- What a module says has the shape of a module.
use Rattle.std.proofs.Common.{Some, option_map, string_bytes, refl}
use Rattle.std.proofs.lemmas.List.Elements.{All-map}
use Rattle.naga_oil_ir.specs.ModuleValue.{FunctionValue, EntryValue, function_value, entry_value}
use Rattle.naga_oil_ir.specs.Parts.{Parts, parts}
use Rattle.naga_oil_ir.specs.Rows.{Row, type_row, constant_row, override_row, global_row}
use Rattle.naga_oil_ir.specs.declared.expression.Expression.{Expression}
use Rattle.naga_oil_ir.specs.declared.module.EntryPoint.{EntryPoint}
use Rattle.naga_oil_ir.specs.declared.module.Function.{Function}
use Rattle.naga_oil_ir.specs.declared.span.Span.{Span}
use Rattle.naga_oil_ir.specs.declared.types.Type.{«Type» as TypeOfShader}
use Rattle.naga_oil_ir.specs.declared.types.Constant.{Constant as ConstantItself}
use Rattle.naga_oil_ir.specs.declared.types.Override.{Override as OverrideItself}
use Rattle.naga_oil_ir.specs.declared.types.GlobalVariable.{GlobalVariable as GlobalItself}
use Rattle.naga_oil_derive.specs.World.{value_of}
use Rattle.naga_oil_derive.proofs.FunctionLaws.{alone}
use Rattle.naga_oil_derive.proofs.KindLaws.{value_kinds}
use Rattle.naga_oil_form_laws.specs.FunctionForm.{NamesFunctionAsResult}
use Rattle.naga_oil_form_laws.proofs.BodyLemmas.{results_of_calls}
use Rattle.naga_oil_form_laws.proofs.ParsedFunctions.{names_call}
use Rattle.naga_oil_form_laws.proofs.ParsedItems.{inner_kinds, names_global}
use Rattle.naga_oil_form_laws.proofs.RequestLemmas.{from_at}
use Rattle.naga_oil_form_laws.specs.Shape.{NamesAsType, NamesTypeAndValue, NamesGlobalAsGlobal, HasFunctionShape, ShapeLaw}

function_shape : (f : Function) → HasFunctionShape (function_value f)
function_shape f = record {
  callees = All-map (λ (e : Parts × Span). NamesFunctionAsResult e.0) (λ (e : Expression × Span). (parts e.0, e.1)) f.expressions (from_at (λ (e : Expression × Span). NamesFunctionAsResult (parts e.0)) f.expressions (λ k e at. names_call e.0));
  results = results_of_calls f.body;
  alone = alone f;
}

pub module_shape : ShapeLaw
unfolding value_of
module_shape m keys = record {
  kinds = value_kinds m;
  keys = keys;
  types = All-map (λ (e : Row × Span). NamesAsType e.0.names) (λ (e : TypeOfShader × Span). (type_row e.0, e.1)) m.types (from_at (λ (e : TypeOfShader × Span). NamesAsType (type_row e.0).names) m.types (λ k e at. inner_kinds (option_map string_bytes e.0.name) e.0.inner));
  constants = All-map (λ (e : Row × Span). NamesTypeAndValue e.0.names) (λ (e : ConstantItself × Span). (constant_row e.0, e.1)) m.constants (from_at (λ (e : ConstantItself × Span). NamesTypeAndValue (constant_row e.0).names) m.constants (λ k e at. record { ty = e.0.ty; value = Some e.0.init; are = refl }));
  overrides = All-map (λ (e : Row × Span). NamesTypeAndValue e.0.names) (λ (e : OverrideItself × Span). (override_row e.0, e.1)) m.overrides (from_at (λ (e : OverrideItself × Span). NamesTypeAndValue (override_row e.0).names) m.overrides (λ k e at. record { ty = e.0.ty; value = e.0.init; are = refl }));
  globals = All-map (λ (e : Row × Span). NamesTypeAndValue e.0.names) (λ (e : GlobalItself × Span). (global_row e.0, e.1)) m.global_variables (from_at (λ (e : GlobalItself × Span). NamesTypeAndValue (global_row e.0).names) m.global_variables (λ k e at. record { ty = e.0.ty; value = e.0.init; are = refl }));
  global_expressions = All-map (λ (e : Parts × Span). NamesGlobalAsGlobal e.0) (λ (e : Expression × Span). (parts e.0, e.1)) m.global_expressions (from_at (λ (e : Expression × Span). NamesGlobalAsGlobal (parts e.0)) m.global_expressions (λ k e at. names_global e.0));
  functions = All-map (λ (e : FunctionValue × Span). HasFunctionShape e.0) (λ (e : Function × Span). (function_value e.0, e.1)) m.functions (from_at (λ (e : Function × Span). HasFunctionShape (function_value e.0)) m.functions (λ k e at. function_shape e.0));
  entry_points = All-map (λ (e : EntryValue). HasFunctionShape e.function) entry_value m.entry_points.items (from_at (λ (e : EntryPoint). HasFunctionShape (function_value e.function)) m.entry_points.items (λ k e at. function_shape e.function));
}
