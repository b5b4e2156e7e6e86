use Rattle.std.proofs.Common.{◌≡◌, [], length}
use Rattle.naga_oil_conditions.specs.Line.{source_lines}
use Rattle.yettuvam_faults.specs.Open.{opened}
use Rattle.yettuvam_faults.proofs.open.open_line.Given as goal

abbrev pub invariant-loop-places : goal.invariant-loop-places
invariant-loop-places l = opened l.places.items l.source.left ≡ opened [] (source_lines l.text)

abbrev pub decreases-loop-places : goal.decreases-loop-places
decreases-loop-places l = length l.source.left
