use Rattle.std.proofs.Common.{◌≡◌, length}
use Rattle.yettuvam_wgsl_valid_items.specs.Variables.{ids_valid, override_rows}
use Rattle.yettuvam_wgsl_valid_items.proofs.variables.test_ids.Given as goal

abbrev pub invariant-loop-rest : goal.invariant-loop-rest
invariant-loop-rest l = ids_valid (override_rows l.overrides) ≡ ids_valid (override_rows l.rest)

abbrev pub decreases-loop-rest : goal.decreases-loop-rest
decreases-loop-rest l = length l.rest
