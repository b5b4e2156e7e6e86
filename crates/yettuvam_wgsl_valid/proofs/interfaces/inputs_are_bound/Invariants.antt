use Rattle.std.proofs.Common.{◌≡◌, length, map}
use Rattle.naga_oil_ir.specs.ModuleValue.{module_value, argument_value}
use Rattle.yettuvam_wgsl_valid.specs.Interfaces.{inputs_are_bound}
use Rattle.yettuvam_wgsl_valid.proofs.interfaces.inputs_are_bound.Given as goal

abbrev pub invariant-loop-rest : goal.invariant-loop-rest
invariant-loop-rest l =
    inputs_are_bound (module_value l.of).types (map argument_value l.arguments)
    ≡ inputs_are_bound (module_value l.of).types (map argument_value l.rest)

abbrev pub decreases-loop-rest : goal.decreases-loop-rest
decreases-loop-rest l = length l.rest
