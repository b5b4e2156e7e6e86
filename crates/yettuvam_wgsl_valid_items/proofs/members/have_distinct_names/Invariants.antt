use Rattle.std.proofs.Common.{◌≡◌, length, map}
use Rattle.naga_oil_ir.specs.Rows.{member_label}
use Rattle.yettuvam_wgsl_valid_items.specs.Members.{have_distinct_names}
use Rattle.yettuvam_wgsl_valid_items.proofs.members.have_distinct_names.Given as goal

abbrev pub invariant-loop-rest : goal.invariant-loop-rest
invariant-loop-rest l = have_distinct_names (map member_label l.members) ≡ have_distinct_names (map member_label l.rest)

abbrev pub decreases-loop-rest : goal.decreases-loop-rest
decreases-loop-rest l = length l.rest
