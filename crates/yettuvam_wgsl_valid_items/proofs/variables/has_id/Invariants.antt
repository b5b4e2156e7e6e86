use Rattle.std.proofs.Common.{◌≡◌, length}
use Rattle.yettuvam_wgsl_valid_items.specs.Variables.{has_id, override_rows}
use Rattle.yettuvam_wgsl_valid_items.proofs.variables.has_id.Given as goal

abbrev pub invariant-loop-rest : goal.invariant-loop-rest
invariant-loop-rest l = has_id (override_rows l.overrides) l.number ≡ has_id (override_rows l.rest) l.number

abbrev pub decreases-loop-rest : goal.decreases-loop-rest
decreases-loop-rest l = length l.rest
