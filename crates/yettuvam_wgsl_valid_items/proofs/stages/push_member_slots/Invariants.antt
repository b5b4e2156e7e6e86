use Rattle.std.proofs.Common.{◌≡◌, ◌++◌, length, map}
use Rattle.naga_oil_ir.specs.Rows.{member_label}
use Rattle.yettuvam_wgsl_valid_items.specs.Stages.{member_slots}
use Rattle.yettuvam_wgsl_valid_items.proofs.stages.push_member_slots.Given as goal

abbrev pub invariant-loop-rest : goal.invariant-loop-rest
invariant-loop-rest l =
    l.fn.out.items ++ member_slots (map member_label l.members) ≡ l.out.items ++ member_slots (map member_label l.rest)

abbrev pub decreases-loop-rest : goal.decreases-loop-rest
decreases-loop-rest l = length l.rest
