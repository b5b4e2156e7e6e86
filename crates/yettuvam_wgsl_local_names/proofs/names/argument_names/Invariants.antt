use Rattle.std.proofs.Common.{◌≡◌, [], length, map}
use Rattle.naga_oil_ir.specs.ModuleValue.{argument_value}
use Rattle.yettuvam_wgsl_requests.specs.Calls.{calls_value}
use Rattle.yettuvam_wgsl_written_names.specs.Taken.{taken_of}
use Rattle.yettuvam_wgsl_local_names.specs.LocalNames.{add_arguments, naming_of}
use Rattle.yettuvam_wgsl_local_names.proofs.names.argument_names.Given as goal

abbrev pub invariant-loop-rest : goal.invariant-loop-rest
invariant-loop-rest l =
    add_arguments (calls_value l.calls) (map argument_value l.arguments) (naming_of [] (taken_of l.fn.taken))
    ≡ add_arguments (calls_value l.calls) (map argument_value l.rest) (naming_of l.names.items (taken_of l.taken))

abbrev pub decreases-loop-rest : goal.decreases-loop-rest
decreases-loop-rest l = length l.rest
