use Rattle.std.proofs.Common.{◌≡◌, length}
use Rattle.yettuvam_wgsl_shape.specs.Literals.{exponent_value, exponent_value_from}
use Rattle.yettuvam_wgsl_shape.proofs.literal.read_exponent_value.Given as goal

abbrev pub invariant-loop-rest : goal.invariant-loop-rest
invariant-loop-rest l = exponent_value_from l.value l.rest ≡ exponent_value l.text

abbrev pub decreases-loop-rest : goal.decreases-loop-rest
decreases-loop-rest l = length l.rest
