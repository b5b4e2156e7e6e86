-- The attributes that are left have the same answer, and are fewer.
use Rattle.std.proofs.Common.{◌≡◌, length}
use Rattle.yettuvam_wgsl_attribute_rules.specs.Marks.{each_ruled}
use Rattle.yettuvam_wgsl_attribute_rules.proofs.marks.test_marks.Given as goal

abbrev pub invariant-loop-rest : goal.invariant-loop-rest
invariant-loop-rest l = each_ruled l.place l.marks l.marks ≡ each_ruled l.place l.marks l.rest

abbrev pub decreases-loop-rest : goal.decreases-loop-rest
decreases-loop-rest l = length l.rest
