use Rattle.std.proofs.Common.{◌≡◌, drop, map}
use Rattle.naga_oil_ir.specs.ModuleValue.{module_value, entry_value}
use Rattle.yettuvam_wgsl_valid_items.specs.Faults.{each_valid}
use Rattle.yettuvam_wgsl_valid.specs.Valid.{entry_valid, uses_in, entry_points_valid}
use Rattle.yettuvam_wgsl_valid.proofs.valid.test_entry_points.Given as goal

abbrev pub invariant-loop-entry_point : goal.invariant-loop-entry_point
invariant-loop-entry_point l =
    each_valid (entry_valid (module_value l.of) (uses_in (module_value l.of))) (map entry_value (drop l.entry_point-index l.of.entry_points.items))
    ≡ entry_points_valid (module_value l.of)
