use Rattle.std.proofs.Common.{◌≡◌, length}
use Rattle.yettuvam_files.specs.Rounds.{members, uses_view}
use Rattle.yettuvam_files.proofs.rounds.push_members.Given as goal

abbrev pub invariant-loop-rest : goal.invariant-loop-rest
invariant-loop-rest l =
    members l.marks (uses_view l.uses) (uses_view l.uses) l.item l.end l.fn.out.items
    ≡ members l.marks (uses_view l.uses) (uses_view l.rest) l.at l.end l.out.items

abbrev pub decreases-loop-rest : goal.decreases-loop-rest
decreases-loop-rest l = length l.rest
