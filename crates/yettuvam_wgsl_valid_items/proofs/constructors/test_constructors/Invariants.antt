use Rattle.std.proofs.Common.{◌≡◌, drop}
use Rattle.naga_oil_ir.specs.ModuleValue.{module_value, expression_values}
use Rattle.yettuvam_wgsl_valid_items.specs.Constructors.{constructors_valid}
use Rattle.yettuvam_wgsl_valid_items.proofs.constructors.test_constructors.Given as goal

abbrev pub invariant-loop-entry : goal.invariant-loop-entry
invariant-loop-entry l =
    constructors_valid (module_value l.of).types (expression_values (drop l.entry-index l.expressions))
    ≡ constructors_valid (module_value l.of).types (expression_values l.expressions)
