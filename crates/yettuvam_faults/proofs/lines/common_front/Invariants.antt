use Rattle.std.proofs.Common.{◌≡◌, ◌+◌, drop}
use Rattle.yettuvam_faults.specs.Lines.{common_front}
use Rattle.yettuvam_faults.proofs.lines.common_front.Given as goal

abbrev pub invariant-loop-i : goal.invariant-loop-i
invariant-loop-i l = l.i + common_front (drop l.i l.a) (drop l.i l.b) ≡ common_front l.a l.b
