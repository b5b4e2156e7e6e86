use Rattle.std.proofs.Common.{◌≡◌, ◌+◌, ◌≤◌, length}
use Rattle.yettuvam_wgsl_shape.specs.Literals.{significand, significand_from}
use Rattle.yettuvam_wgsl_shape.proofs.literal.read_significand.Given as goal

abbrev pub invariant-loop-rest : goal.invariant-loop-rest
invariant-loop-rest l = record {
  same : significand_from l.base l.significand l.rest ≡ significand l.base l.text;
  dropped : l.significand.dropped + length l.rest ≤ length l.text;
  fraction : l.significand.fraction + length l.rest ≤ length l.text;
}

abbrev pub decreases-loop-rest : goal.decreases-loop-rest
decreases-loop-rest l = length l.rest
