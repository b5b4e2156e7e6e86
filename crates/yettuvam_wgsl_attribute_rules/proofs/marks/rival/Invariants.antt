-- The attributes that are left have the same answer, and are fewer.
use Rattle.std.proofs.Common.{◌≡◌, length}
use Rattle.yettuvam_wgsl_attribute_rules.specs.Marks.{rival}
use Rattle.yettuvam_wgsl_attribute_rules.proofs.marks.rival.Given as goal

abbrev pub invariant-loop-rest : goal.invariant-loop-rest
invariant-loop-rest l = rival l.marks l.attribute ≡ rival l.rest l.attribute

abbrev pub decreases-loop-rest : goal.decreases-loop-rest
decreases-loop-rest l = length l.rest
