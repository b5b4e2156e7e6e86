use Rattle.std.proofs.Common.{◌≡◌, drop, map}
use Rattle.naga_oil_ir.specs.ModuleValue.{module_value}
use Rattle.naga_oil_ir.specs.Rows.{global_row}
use Rattle.yettuvam_wgsl_valid.specs.Bindings.{spaces_valid}
use Rattle.yettuvam_wgsl_valid.proofs.bindings.test_spaces.Given as goal

abbrev pub invariant-loop-entry : goal.invariant-loop-entry
invariant-loop-entry l =
    spaces_valid (map (λ e. (global_row e.0, e.1)) (drop l.entry-index l.entry-items))
    ≡ spaces_valid (module_value l.of).global_variables
