use Rattle.std.proofs.Common.{◌≡◌, length}
use Rattle.yettuvam_wgsl_counts.specs.Times.{count_all}
use Rattle.yettuvam_wgsl_counts.proofs.times.count_all.Given as goal

abbrev pub invariant-loop-rest : goal.invariant-loop-rest
invariant-loop-rest l = count_all l.fn.times l.operands ≡ count_all l.times l.rest

abbrev pub decreases-loop-rest : goal.decreases-loop-rest
decreases-loop-rest l = length l.rest
