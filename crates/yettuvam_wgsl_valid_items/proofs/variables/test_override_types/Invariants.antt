use Rattle.std.proofs.Common.{◌≡◌, drop}
use Rattle.naga_oil_ir.specs.ModuleValue.{module_value}
use Rattle.yettuvam_wgsl_valid_items.specs.Variables.{override_rows, override_types_valid}
use Rattle.yettuvam_wgsl_valid_items.proofs.variables.test_override_types.Given as goal

abbrev pub invariant-loop-entry : goal.invariant-loop-entry
invariant-loop-entry l =
    override_types_valid (module_value l.of).types (override_rows (drop l.entry-index l.entry-items))
    ≡ override_types_valid (module_value l.of).types (module_value l.of).overrides
