use Rattle.std.proofs.Common.{◌≡◌, length}
use Rattle.yettuvam_wgsl_write_expressions.specs.Context.{context_of}
use Rattle.yettuvam_wgsl_write_items.specs.Text.{pieces_of}
use Rattle.yettuvam_wgsl_written_names.specs.Items.{texts}
use Rattle.yettuvam_wgsl_write.specs.Functions.{each_function, functions}
use Rattle.yettuvam_wgsl_write.specs.Plans.{functions_value, plans_value}
use Rattle.yettuvam_wgsl_write.proofs.functions.push_functions.Given as goal

abbrev pub invariant-loop-rest : goal.invariant-loop-rest
invariant-loop-rest l =
    each_function (context_of l.context) (texts l.names) (plans_value l.plans) (functions_value l.rest) (pieces_of l.out)
    ≡ functions (context_of l.context) (plans_value l.fn.plans) (functions_value l.of) (pieces_of l.fn.out)

abbrev pub decreases-loop-rest : goal.decreases-loop-rest
decreases-loop-rest l = length l.rest
