-- The test of a module.
use Rattle.std.specs.Prelude.{List, [], ◌∷◌, map, reverse, is_some}
use Rattle.naga_oil_ir.specs.Body.{Tokens}
use Rattle.naga_oil_ir.specs.ModuleValue.{ModuleValue, FunctionValue, EntryValue}
use Rattle.naga_oil_ir.specs.Spans.{undefined}
use Rattle.naga_oil_ir.specs.declared.span.Span.{Span}
use Rattle.naga_oil_ir.specs.declared.tokens.Token.TheVariants.{At}
use Rattle.yettuvam_wgsl_valid.specs.Bindings.{Uses, uses_of, spaces_valid, bindings_valid}
use Rattle.yettuvam_wgsl_valid.specs.Calls.{calls_valid, all_math_valid}
use Rattle.yettuvam_wgsl_valid_items.specs.Faults.{Outcome, and_then, each_valid}
use Rattle.yettuvam_wgsl_valid.specs.Flow.{flow_valid}
use Rattle.yettuvam_wgsl_valid.specs.Interfaces.{interface_valid}
use Rattle.yettuvam_wgsl_valid_items.specs.Constructors.{constructors_valid}
use Rattle.yettuvam_wgsl_valid_items.specs.Items.{items_valid}
use Rattle.yettuvam_wgsl_valid_items.specs.Stages.{stage_valid}
use Rattle.yettuvam_wgsl_valid_items.specs.Switches.{switches_valid}

-- the span of the first statement
abbrev pub first_span : Tokens → Span
first_span (At s ∷ ts) = s
first_span ts = undefined

-- a function with this body and place: its calls, its constructors, its switches, and how it ends
abbrev pub body_valid : ModuleValue → FunctionValue → Tokens → Span → Outcome
body_valid m f body at =
    and_then (all_math_valid f.expressions)
    (and_then (constructors_valid m.types f.expressions)
    (and_then (calls_valid m.functions body)
    (and_then (switches_valid body)
    (flow_valid body (is_some f.result) at))))

abbrev pub function_valid : ModuleValue → FunctionValue × Span → Outcome
function_valid m f = body_valid m f.0 f.0.body f.1

abbrev pub functions_valid : ModuleValue → Outcome
functions_valid m = each_valid (function_valid m) m.functions

abbrev pub uses_each : List (FunctionValue × Span) → List Uses
uses_each fs = map (λ f. uses_of f.0) fs

-- what each function names, in order, and the last first
abbrev pub uses_in_order : ModuleValue → List Uses
uses_in_order m = uses_each m.functions

abbrev pub uses_in : ModuleValue → List Uses
uses_in m = reverse (uses_in_order m)

-- an entry point: its body, its inputs and outputs, what its stage has, and the bindings that it reaches
abbrev pub entry_valid : ModuleValue → List Uses → EntryValue → Outcome
entry_valid m uses e =
    and_then (body_valid m e.function e.function.body (first_span e.function.body))
    (and_then (interface_valid m.types e (first_span e.function.body))
    (and_then (stage_valid m.types e (first_span e.function.body))
    (bindings_valid m.global_variables uses (uses_of e.function))))

abbrev pub entry_points_valid : ModuleValue → Outcome
entry_points_valid m = each_valid (entry_valid m (uses_in m)) m.entry_points

-- the first fault of a module: of the bindings of its variables, its items, its functions, or its entry points
unfoldable pub validated : ModuleValue → Outcome
validated m =
    and_then (spaces_valid m.global_variables)
    (and_then (items_valid m)
    (and_then (functions_valid m) (entry_points_valid m)))
