use Rattle.std.proofs.Common.{◌≡◌, ◌++◌, length}
use Rattle.naga_oil_ir.specs.ModuleValue.{expression_values}
use Rattle.yettuvam_wgsl_valid.specs.Bindings.{globals_in}
use Rattle.yettuvam_wgsl_valid.proofs.bindings.globals_in.Given as goal

abbrev pub invariant-loop-rest : goal.invariant-loop-rest
invariant-loop-rest l = globals_in (expression_values l.expressions) ≡ l.out.items ++ globals_in (expression_values l.rest)

abbrev pub decreases-loop-rest : goal.decreases-loop-rest
decreases-loop-rest l = length l.rest
