use Rattle.std.proofs.Common.{◌≡◌, length}
use Rattle.yettuvam_wgsl_valid.specs.Flow.{run, state_of}
use Rattle.yettuvam_wgsl_valid.proofs.flow.Flow.run.Given as goal

abbrev pub invariant-loop-rest : goal.invariant-loop-rest
invariant-loop-rest l = run l.tokens (state_of l.fn.self) ≡ run l.rest (state_of l.self)

abbrev pub decreases-loop-rest : goal.decreases-loop-rest
decreases-loop-rest l = length l.rest
