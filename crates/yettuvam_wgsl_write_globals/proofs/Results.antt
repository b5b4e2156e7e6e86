-- The results of functions, seen by the functions' values.
use Rattle.std.proofs.Common.{◌≡◌, List, [], ◌∷◌, Option, refl, ap, map}
use Rattle.naga_oil_ir.specs.ModuleValue.{function_value}
use Rattle.naga_oil_ir.specs.declared.module.Function.{Function}
use Rattle.naga_oil_ir.specs.declared.module.FunctionResult.{FunctionResult}
use Rattle.naga_oil_ir.specs.declared.span.Span.{Span}
use Rattle.yettuvam_wgsl_write_expressions.specs.Context.{function_results}
use Rattle.yettuvam_wgsl_write_globals.specs.Globals.{results_of}

pub same_results : (fs : List (Function × Span)) → function_results fs ≡ results_of (map (λ e. (function_value e.0, e.1)) fs)
same_results [] = refl
same_results (f ∷ fs) = ap (λ (rs : List (Option FunctionResult)). f.0.result ∷ rs) (same_results fs)
