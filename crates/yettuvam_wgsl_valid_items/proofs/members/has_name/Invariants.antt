use Rattle.std.proofs.Common.{◌≡◌, length, map}
use Rattle.naga_oil_ir.specs.Rows.{member_label}
use Rattle.yettuvam_wgsl_valid_items.specs.Members.{has_name}
use Rattle.yettuvam_wgsl_valid_items.proofs.members.has_name.Given as goal

abbrev pub invariant-loop-rest : goal.invariant-loop-rest
invariant-loop-rest l = has_name (map member_label l.members) l.name ≡ has_name (map member_label l.rest) l.name

abbrev pub decreases-loop-rest : goal.decreases-loop-rest
decreases-loop-rest l = length l.rest
