use Rattle.std.proofs.Common.{◌≡◌, ◌++◌, length}
use Rattle.naga_oil_ir.specs.ModuleValue.{module_value}
use Rattle.yettuvam_wgsl_written_names.specs.Taken.{taken_of}
use Rattle.yettuvam_wgsl_write.specs.Plans.{function_plans, functions_value, plans_value}
use Rattle.yettuvam_wgsl_write.proofs.plans.function_plans.Given as goal

abbrev pub invariant-loop-rest : goal.invariant-loop-rest
invariant-loop-rest l =
    function_plans (module_value l.of) (taken_of l.taken) (functions_value l.functions)
    ≡ plans_value l.plans.items ++ function_plans (module_value l.of) (taken_of l.taken) (functions_value l.rest)

abbrev pub decreases-loop-rest : goal.decreases-loop-rest
decreases-loop-rest l = length l.rest
