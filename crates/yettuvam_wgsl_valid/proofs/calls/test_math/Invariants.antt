use Rattle.std.proofs.Common.{◌≡◌, drop}
use Rattle.naga_oil_ir.specs.ModuleValue.{expression_values}
use Rattle.yettuvam_wgsl_valid.specs.Calls.{all_math_valid}
use Rattle.yettuvam_wgsl_valid.proofs.calls.test_math.Given as goal

abbrev pub invariant-loop-entry : goal.invariant-loop-entry
invariant-loop-entry l =
    all_math_valid (expression_values (drop l.entry-index l.entry-items))
    ≡ all_math_valid (expression_values l.of.expressions)
