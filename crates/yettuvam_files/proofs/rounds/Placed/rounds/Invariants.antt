use Rattle.std.proofs.Common.{◌≡◌, length}
use Rattle.yettuvam_files.specs.Rounds.{rounds, state_of, uses_view}
use Rattle.yettuvam_files.proofs.rounds.Placed.rounds.Given as goal

abbrev pub invariant-loop-rest : goal.invariant-loop-rest
invariant-loop-rest l =
    rounds (uses_view l.uses) (uses_view l.turns) (state_of l.fn.self) ≡ rounds (uses_view l.uses) (uses_view l.rest) (state_of l.self)

abbrev pub decreases-loop-rest : goal.decreases-loop-rest
decreases-loop-rest l = length l.rest
