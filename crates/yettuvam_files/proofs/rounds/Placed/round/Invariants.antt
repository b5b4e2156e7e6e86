use Rattle.std.proofs.Common.{◌≡◌, length}
use Rattle.yettuvam_files.specs.Rounds.{round, state_of, uses_view}
use Rattle.yettuvam_files.proofs.rounds.Placed.round.Given as goal

abbrev pub invariant-loop-rest : goal.invariant-loop-rest
invariant-loop-rest l =
    round l.count (uses_view l.uses) (state_of l.fn.self) ≡ round l.count (uses_view l.rest) (state_of l.self)

abbrev pub decreases-loop-rest : goal.decreases-loop-rest
decreases-loop-rest l = length l.rest
