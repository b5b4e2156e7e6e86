use Rattle.std.proofs.Common.{◌≡◌, drop, map}
use Rattle.naga_oil_ir.specs.ModuleValue.{module_value, function_value}
use Rattle.yettuvam_wgsl_valid_items.specs.Faults.{each_valid}
use Rattle.yettuvam_wgsl_valid.specs.Valid.{function_valid, functions_valid}
use Rattle.yettuvam_wgsl_valid.proofs.valid.test_functions.Given as goal

abbrev pub invariant-loop-entry : goal.invariant-loop-entry
invariant-loop-entry l =
    each_valid (function_valid (module_value l.of)) (map (λ e. (function_value e.0, e.1)) (drop l.entry-index l.entry-items))
    ≡ functions_valid (module_value l.of)
