use Rattle.std.proofs.Common.{◌≡◌, [], length}
use Rattle.naga_oil_ir.specs.ModuleValue.{expression_values, function_value, module_value}
use Rattle.yettuvam_wgsl_natures.specs.Natures.{natures_from}
use Rattle.yettuvam_wgsl_natures.proofs.natures.push_natures.Given as goal

abbrev pub invariant-loop-rest : goal.invariant-loop-rest
invariant-loop-rest l =
    natures_from (module_value l.of) (function_value l.function) [] (expression_values l.expressions)
    ≡ natures_from (module_value l.of) (function_value l.function) l.natures.items (expression_values l.rest)

abbrev pub decreases-loop-rest : goal.decreases-loop-rest
decreases-loop-rest l = length l.rest
