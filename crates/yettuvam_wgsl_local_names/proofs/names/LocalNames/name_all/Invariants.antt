use Rattle.std.proofs.Common.{◌≡◌, length}
use Rattle.naga_oil_ir.specs.ModuleValue.{function_value}
use Rattle.yettuvam_wgsl_requests.specs.Calls.{calls_value}
use Rattle.yettuvam_wgsl_written_names.specs.Taken.{taken_of}
use Rattle.yettuvam_wgsl_local_names.specs.LocalNames.{name_all, names_value, state_of}
use Rattle.yettuvam_wgsl_local_names.proofs.names.LocalNames.name_all.Given as goal

abbrev pub invariant-loop-rest : goal.invariant-loop-rest
invariant-loop-rest l =
    name_all (function_value l.function) (calls_value l.calls) l.requests (state_of (names_value l.fn.self) (taken_of l.fn.taken))
    ≡ name_all (function_value l.function) (calls_value l.calls) l.rest (state_of (names_value l.self) (taken_of l.taken))

abbrev pub decreases-loop-rest : goal.decreases-loop-rest
decreases-loop-rest l = length l.rest
