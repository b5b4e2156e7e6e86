use Rattle.std.proofs.Common.{◌≡◌, drop, map}
use Rattle.naga_oil_ir.specs.ModuleValue.{module_value}
use Rattle.naga_oil_ir.specs.Rows.{global_row}
use Rattle.yettuvam_wgsl_valid_items.specs.Variables.{variables_valid}
use Rattle.yettuvam_wgsl_valid_items.proofs.variables.test_variables.Given as goal

abbrev pub invariant-loop-entry : goal.invariant-loop-entry
invariant-loop-entry l =
    variables_valid (module_value l.of).types (map (λ e. (global_row e.0, e.1)) (drop l.entry-index l.entry-items))
    ≡ variables_valid (module_value l.of).types (module_value l.of).global_variables
