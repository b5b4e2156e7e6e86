use Rattle.std.proofs.Common.{◌≡◌, length}
use Rattle.yettuvam_wgsl_valid_items.specs.Distinct.{are_distinct}
use Rattle.yettuvam_wgsl_valid_items.proofs.distinct.are_distinct.Given as goal

abbrev pub invariant-loop-rest : goal.invariant-loop-rest
invariant-loop-rest l = are_distinct l.numbers ≡ are_distinct l.rest

abbrev pub decreases-loop-rest : goal.decreases-loop-rest
decreases-loop-rest l = length l.rest
