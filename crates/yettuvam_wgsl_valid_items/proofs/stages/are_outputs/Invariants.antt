use Rattle.std.proofs.Common.{◌≡◌, length}
use Rattle.yettuvam_wgsl_valid_items.specs.Stages.{are_outputs}
use Rattle.yettuvam_wgsl_valid_items.proofs.stages.are_outputs.Given as goal

abbrev pub invariant-loop-rest : goal.invariant-loop-rest
invariant-loop-rest l = are_outputs l.stage l.slots ≡ are_outputs l.stage l.rest

abbrev pub decreases-loop-rest : goal.decreases-loop-rest
decreases-loop-rest l = length l.rest
