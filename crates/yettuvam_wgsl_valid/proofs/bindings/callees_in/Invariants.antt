use Rattle.std.proofs.Common.{◌≡◌, ◌++◌, length}
use Rattle.yettuvam_wgsl_valid.specs.Bindings.{callees_in}
use Rattle.yettuvam_wgsl_valid.proofs.bindings.callees_in.Given as goal

abbrev pub invariant-loop-rest : goal.invariant-loop-rest
invariant-loop-rest l = callees_in l.tokens ≡ l.out.items ++ callees_in l.rest

abbrev pub decreases-loop-rest : goal.decreases-loop-rest
decreases-loop-rest l = length l.rest
