use Rattle.std.proofs.Common.{◌≡◌, ◌++◌, length, map}
use Rattle.naga_oil_ir.specs.ModuleValue.{module_value, argument_value}
use Rattle.yettuvam_wgsl_valid_items.specs.Stages.{input_slots}
use Rattle.yettuvam_wgsl_valid_items.proofs.stages.input_slots.Given as goal

abbrev pub invariant-loop-rest : goal.invariant-loop-rest
invariant-loop-rest l =
    input_slots (module_value l.of).types (map argument_value l.arguments)
    ≡ l.out.items ++ input_slots (module_value l.of).types (map argument_value l.rest)

abbrev pub decreases-loop-rest : goal.decreases-loop-rest
decreases-loop-rest l = length l.rest
