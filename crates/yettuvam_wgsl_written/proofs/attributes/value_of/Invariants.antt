use Rattle.std.proofs.Common.{◌≡◌, length}
use Rattle.yettuvam_wgsl_written.specs.Attributes.{value_of}
use Rattle.yettuvam_wgsl_written.proofs.attributes.value_of.Given as goal

abbrev pub invariant-loop-rest : goal.invariant-loop-rest
invariant-loop-rest l = value_of l.rest l.code ≡ value_of l.table l.code

abbrev pub decreases-loop-rest : goal.decreases-loop-rest
decreases-loop-rest l = length l.rest
