use Rattle.std.proofs.Common.{◌≡◌, length}
use Rattle.yettuvam_wgsl_valid_items.specs.Distinct.{contains}
use Rattle.yettuvam_wgsl_valid_items.proofs.distinct.contains.Given as goal

abbrev pub invariant-loop-rest : goal.invariant-loop-rest
invariant-loop-rest l = contains l.number l.numbers ≡ contains l.number l.rest

abbrev pub decreases-loop-rest : goal.decreases-loop-rest
decreases-loop-rest l = length l.rest
