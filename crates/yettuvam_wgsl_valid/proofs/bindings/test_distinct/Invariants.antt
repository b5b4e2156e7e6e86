use Rattle.std.proofs.Common.{◌≡◌, length}
use Rattle.yettuvam_wgsl_valid.specs.Bindings.{distinct_from, distinct_valid, global_rows}
use Rattle.yettuvam_wgsl_valid.proofs.bindings.test_distinct.Given as goal

abbrev pub invariant-loop-rest : goal.invariant-loop-rest
invariant-loop-rest l =
    distinct_valid (global_rows l.globals) l.reached
    ≡ distinct_from (global_rows l.rest) l.marks l.met.entries

abbrev pub decreases-loop-rest : goal.decreases-loop-rest
decreases-loop-rest l = length l.rest
