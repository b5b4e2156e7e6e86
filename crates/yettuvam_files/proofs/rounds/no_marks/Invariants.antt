use Rattle.std.proofs.Common.{◌≡◌, ◌++◌, length}
use Rattle.yettuvam_files.specs.Rounds.{no_marks, uses_view}
use Rattle.yettuvam_files.proofs.rounds.no_marks.Given as goal

abbrev pub invariant-loop-rest : goal.invariant-loop-rest
invariant-loop-rest l = no_marks (uses_view l.uses) ≡ l.marks.items ++ no_marks (uses_view l.rest)

abbrev pub decreases-loop-rest : goal.decreases-loop-rest
decreases-loop-rest l = length l.rest
