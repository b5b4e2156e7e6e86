use Rattle.std.proofs.Common.{◌≡◌, length, map}
use Rattle.naga_oil_ir.specs.Rows.{member_label}
use Rattle.yettuvam_wgsl_valid.specs.Interfaces.{are_bound}
use Rattle.yettuvam_wgsl_valid.proofs.interfaces.are_bound.Given as goal

abbrev pub invariant-loop-rest : goal.invariant-loop-rest
invariant-loop-rest l = are_bound (map member_label l.members) ≡ are_bound (map member_label l.rest)

abbrev pub decreases-loop-rest : goal.decreases-loop-rest
decreases-loop-rest l = length l.rest
