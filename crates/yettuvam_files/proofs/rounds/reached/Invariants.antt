use Rattle.std.proofs.Common.{◌≡◌, length}
use Rattle.yettuvam_files.specs.Rounds.{reached, uses_view}
use Rattle.yettuvam_files.proofs.rounds.reached.Given as goal

abbrev pub invariant-loop-rest : goal.invariant-loop-rest
invariant-loop-rest l =
    reached l.marks (uses_view l.uses) (uses_view l.turns) l.item ≡ reached l.marks (uses_view l.uses) (uses_view l.rest) l.at

abbrev pub decreases-loop-rest : goal.decreases-loop-rest
decreases-loop-rest l = length l.rest
