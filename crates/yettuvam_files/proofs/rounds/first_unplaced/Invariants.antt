use Rattle.std.proofs.Common.{◌≡◌, length}
use Rattle.yettuvam_files.specs.Rounds.{first_unplaced}
use Rattle.yettuvam_files.proofs.rounds.first_unplaced.Given as goal

abbrev pub invariant-loop-rest : goal.invariant-loop-rest
invariant-loop-rest l = first_unplaced l.marks l.items l.other ≡ first_unplaced l.marks l.rest l.other

abbrev pub decreases-loop-rest : goal.decreases-loop-rest
decreases-loop-rest l = length l.rest
