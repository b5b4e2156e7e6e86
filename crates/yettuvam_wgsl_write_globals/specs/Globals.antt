-- Global expressions, the shapes of expressions, and the context of a module.
use Rattle.std.specs.Prelude.{ℕ, List, [], ◌∷◌, ◌++◌, map, Option, Result, Ok}
use Rattle.naga_oil_ir.specs.ModuleValue.{FunctionValue, ModuleValue}
use Rattle.naga_oil_ir.specs.Parts.{Parts}
use Rattle.naga_oil_ir.specs.declared.module.FunctionArgument.{FunctionArgument}
use Rattle.naga_oil_ir.specs.declared.module.FunctionResult.{FunctionResult}
use Rattle.naga_oil_ir.specs.declared.span.Span.{Span}
use Rattle.yettuvam_wgsl_written.specs.Outcomes.{◌>>=◌}
use Rattle.yettuvam_wgsl_written.specs.Written.{Written}
use Rattle.yettuvam_wgsl_written_names.specs.Items.{ItemNames}
use Rattle.yettuvam_wgsl_write_types.specs.Types.{Known, Texts, type_texts}
use Rattle.yettuvam_wgsl_write_expressions.specs.Context.{Context, Scope}
use Rattle.yettuvam_wgsl_write_expressions.specs.Expressions.{expression}
use Rattle.yettuvam_wgsl_write_expressions.specs.Operands.{WrittenOutcome}
use Rattle.yettuvam_wgsl_write_expressions.specs.Shapes.{shape_of}
use Rattle.yettuvam_wgsl_write_expressions.specs.declared.shapes.Shape.{Shape}

-- ---- expressions in their order

-- the types of arguments
abbrev pub types_of : List FunctionArgument → List ℕ
types_of arguments = map (λ a. a.ty) arguments

-- where an expression stands that names no local and no argument by its name
abbrev pub scope_at : Context → List ℕ → List Shape → Span → Scope
scope_at c argument_types shapes span = record {
  context = c;
  arguments = [];
  locals = [];
  argument_types = argument_types;
  shapes = shapes;
  span = span;
}

-- the shape of an expression, from those of the earlier ones
abbrev pub next_shape : Context → List ℕ → List ℕ → List Shape → Parts × Span → Shape
next_shape c argument_types locals shapes e = shape_of (scope_at c argument_types shapes e.1) locals e.0

unfoldable pub each_shape : Context → List ℕ → List ℕ → List Shape → List (Parts × Span) → List Shape
each_shape c argument_types locals shapes [] = shapes
each_shape c argument_types locals shapes (e ∷ es) =
    each_shape c argument_types locals (shapes ++ next_shape c argument_types locals shapes e ∷ []) es

-- the shapes of a list of expressions
abbrev pub shapes : Context → List ℕ → List ℕ → List (Parts × Span) → List Shape
shapes c argument_types locals es = each_shape c argument_types locals [] es

-- a global expression, from the earlier ones
abbrev pub global_value : Context → List Shape → List Written → Parts × Span → WrittenOutcome
global_value c ss known e = expression (scope_at c [] ss e.1) known e.0

unfoldable pub each_value : Context → List Shape → List Written → List (Parts × Span) → Result (List Written) Span
each_value c ss known [] = Ok known
each_value c ss known (e ∷ es) = global_value c ss known e >>= (λ w. each_value c ss (known ++ w ∷ []) es)

-- how the global expressions of a module are written
abbrev pub global_values : Context → List (Parts × Span) → Result (List Written) Span
global_values c es = each_value c (shapes c [] [] es) [] es

-- ---- the context of a module

abbrev pub known_types : ModuleValue → ItemNames → Option (List Written) → Known
known_types m names values = record { names = names; overrides = m.overrides; values = values }

abbrev pub results_of : List (FunctionValue × Span) → List (Option FunctionResult)
results_of fs = map (λ f. f.0.result) fs

abbrev pub context_with : ModuleValue → ItemNames → Texts → Context
context_with m names texts = record {
  types = m.types;
  constants = m.constants;
  overrides = m.overrides;
  globals = m.global_variables;
  results = results_of m.functions;
  names = names;
  texts = texts;
}

-- the items of a module, their names, and how its types are written once its global expressions are, or before
unfoldable pub module_context : ModuleValue → ItemNames → Option (List Written) → Result Context Span
module_context m names values =
    type_texts (known_types m names values) m.types >>= (λ t. Ok (context_with m names t))
