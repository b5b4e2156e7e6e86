use Rattle.std.proofs.Common.{◌≡◌, length, map}
use Rattle.naga_oil_ir.specs.Rows.{member_label}
use Rattle.yettuvam_wgsl_valid.specs.Interfaces.{have_position}
use Rattle.yettuvam_wgsl_valid.proofs.interfaces.have_position.Given as goal

abbrev pub invariant-loop-rest : goal.invariant-loop-rest
invariant-loop-rest l = have_position (map member_label l.members) ≡ have_position (map member_label l.rest)

abbrev pub decreases-loop-rest : goal.decreases-loop-rest
decreases-loop-rest l = length l.rest
