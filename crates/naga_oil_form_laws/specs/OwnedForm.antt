-- Modules still pass the test of form after their items are renamed and their entry points become functions.
use Rattle.std.specs.Prelude.{◌≡◌, ℕ, List, [], ◌++◌, length, map, slice_get, None, Some, option_map, All, IsSome}
use Rattle.naga_oil_words.specs.Marks.{with_decoration}
use Rattle.naga_oil_form.specs.BodyForm.{IsSpanFine}
use Rattle.naga_oil_ir.specs.ModuleValue.{ModuleValue, FunctionValue, ArgumentValue}
use Rattle.naga_oil_ir.specs.Rows.{Row, Text}
use Rattle.naga_oil_form.specs.WellFormed.{WellFormed}
use Rattle.naga_oil_ir.specs.declared.module.FunctionResult.{FunctionResult}
use Rattle.naga_oil_ir.specs.declared.module.Module.{Module}
use Rattle.naga_oil_ir.specs.declared.span.Span.{Span}
use Rattle.naga_oil_ir.specs.Spans.{u32_max}
use Rattle.naga_oil_derive.specs.World.{value_of}
use Rattle.naga_oil_form_laws.specs.EntryForm.{IsModuleFormed}
use Rattle.naga_oil_form_laws.specs.FunctionForm.{IsFunctionFormed}

-- ---- other names

-- an item, and a function, with another name
abbrev pub name_item : (Text → Text) → Row × Span → Row × Span
name_item g e = (record e.0 { label = record e.0.label { name = g e.0.label.name } }, e.1)

abbrev pub name_function : (Text → Text) → FunctionValue × Span → FunctionValue × Span
name_function g e = (record e.0 { name = g e.0.name }, e.1)

-- a module whose constants, overrides, globals and functions have other names
abbrev pub name_items : (Text → Text) → ModuleValue → ModuleValue
name_items g m = record m {
  constants = map (name_item g) m.constants;
  overrides = map (name_item g) m.overrides;
  global_variables = map (name_item g) m.global_variables;
  functions = map (name_function g) m.functions;
}

-- each function has a name of its own then
pub record KeepsNames (g : Text → Text) (m : ModuleValue) : Type 0 where
  pub named : (name : Text) → IsSome name → IsSome (g name)
  pub distinct :
      (j k : ℕ) (e f : FunctionValue × Span) → slice_get m.functions j ≡ Some e → slice_get m.functions k ≡ Some f →
      g e.0.name ≡ g f.0.name → j ≡ k

-- LAW: a renamed module passes if it did before
abbrev pub NamedLaw : Type 0
NamedLaw = (g : Text → Text) (m : ModuleValue) → KeepsNames g m → IsModuleFormed m → IsModuleFormed (name_items g m)

-- LAW: the decoration under which a module passes the test is such a renaming
abbrev pub DecorationLaw : Type 0
DecorationLaw =
    (m : Module) (decoration : List ℕ) (n : ℕ) → WellFormed m decoration n →
    KeepsNames (option_map (with_decoration decoration)) (value_of m)

-- ---- entry points as functions

abbrev pub without_binding : ArgumentValue → ArgumentValue
without_binding a = record a { binding = None }

abbrev pub result_without_binding : FunctionResult → FunctionResult
result_without_binding r = record r { binding = None }

-- a function under a name, whose arguments and result have no bindings
abbrev pub without_bindings : Text → FunctionValue → FunctionValue
without_bindings name f = record f {
  name = name;
  arguments = map without_binding f.arguments;
  result = option_map result_without_binding f.result;
}

-- LAW: a function without bindings passes if it did before
abbrev pub UnboundLaw : Type 0
UnboundLaw =
    (m : ModuleValue) (c n : ℕ) (name : Text) (f : FunctionValue) → IsFunctionFormed m c n f →
    IsFunctionFormed m c n (without_bindings name f)

-- a module with functions appended to its own, and no entry points
abbrev pub append_functions : List (FunctionValue × Span) → ModuleValue → ModuleValue
append_functions fs m = record m { functions = m.functions ++ fs; entry_points = [] }

-- functions may be appended to those of a module: they call only the module's, have names, and all names are distinct
pub record MayBeAppended (m : ModuleValue) (fs : List (FunctionValue × Span)) : Type 0 where
  pub named : All (λ e. IsSome e.0.name) fs
  pub forms : All (λ e. IsFunctionFormed m (length m.functions) u32_max e.0) fs
  pub spans : All (λ e. IsSpanFine u32_max e.1) fs
  pub distinct :
      (j k : ℕ) (e f : FunctionValue × Span) → slice_get (m.functions ++ fs) j ≡ Some e →
      slice_get (m.functions ++ fs) k ≡ Some f → e.0.name ≡ f.0.name → j ≡ k

-- LAW: a module with functions appended passes if it did before
abbrev pub AppendedLaw : Type 0
AppendedLaw =
    (m : ModuleValue) (fs : List (FunctionValue × Span)) → MayBeAppended m fs → IsModuleFormed m →
    IsModuleFormed (append_functions fs m)
