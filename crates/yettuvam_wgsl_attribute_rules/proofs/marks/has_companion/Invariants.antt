-- The attributes that are left have the same answer, and are fewer.
use Rattle.std.proofs.Common.{◌≡◌, length}
use Rattle.yettuvam_wgsl_attribute_rules.specs.Marks.{has_companion}
use Rattle.yettuvam_wgsl_attribute_rules.proofs.marks.has_companion.Given as goal

abbrev pub invariant-loop-rest : goal.invariant-loop-rest
invariant-loop-rest l = has_companion l.marks l.companion ≡ has_companion l.rest l.companion

abbrev pub decreases-loop-rest : goal.decreases-loop-rest
decreases-loop-rest l = length l.rest
