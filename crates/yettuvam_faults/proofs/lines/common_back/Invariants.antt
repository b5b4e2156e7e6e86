use Rattle.std.proofs.Common.{◌≡◌, ◌+◌, drop, reverse}
use Rattle.yettuvam_faults.specs.Lines.{common_front}
use Rattle.yettuvam_faults.proofs.lines.common_back.Given as goal

abbrev pub invariant-loop-i : goal.invariant-loop-i
invariant-loop-i l = l.i + common_front (drop l.i (reverse l.a)) (drop l.i (reverse l.b)) ≡ common_front (reverse l.a) (reverse l.b)
