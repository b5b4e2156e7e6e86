-- The modules that are copied from.
use Rattle.std.specs.Prelude.{◌≡◌, ℕ, List, [], map, slice_get, Some, None}
use Rattle.std.specs.Borrow.{Bor}
use Rattle.naga_oil_ir.specs.ModuleValue.{FunctionValue, function_value}
use Rattle.naga_oil_ir.specs.declared.module.Function.{Function}
use Rattle.naga_oil_ir.specs.declared.module.Module.{Module}
use Rattle.naga_oil_ir.specs.declared.span.Span.{Span}
use Rattle.naga_oil_derive.specs.World.{value_of}
use Rattle.naga_oil_derive.specs.Derived.{Source, Derived}
use Rattle.naga_oil_form_laws.specs.EntryForm.{IsModuleFormed}

-- a module that passes the test of form is the source
pub record IsSource (m : Module) (d : Derived) : Type 0 where
  pub form : IsModuleFormed (value_of m)
  pub source : Source
  pub set : d.source ≡ Some source
  pub value : source.value ≡ value_of m

unfoldable pub CopiesFrom : Module → Derived → Type 0
CopiesFrom m d = IsSource m d

-- a function of a module, with its span
abbrev pub IsFunctionOf : Module → Function × Span → Type 0
IsFunctionOf m e = (k : ℕ) × (slice_get m.functions k ≡ Some e)

-- a function, and several, as values
abbrev pub shown_function : Function × Span → FunctionValue × Span
shown_function e = (function_value e.0, e.1)

abbrev pub shown_functions : List (Bor (Function × Span)) → List (FunctionValue × Span)
shown_functions es = map (λ e. shown_function e.now) es

-- a function with its name, arguments and result only
abbrev pub stub_of : FunctionValue → FunctionValue
stub_of f = record {
  name = f.name;
  arguments = f.arguments;
  result = f.result;
  local_variables = [];
  expressions = [];
  named_expressions = [];
  body = [];
  diagnostic_filter_leaf = None;
}
