use Rattle.std.proofs.Common.{◌≡◌, length}
use Rattle.yettuvam_wgsl_lines.specs.Line.{lines_value}
use Rattle.yettuvam_wgsl_uses.specs.Uses.{uses_value}
use Rattle.yettuvam_wgsl_requests.specs.Calls.{run, calls_value}
use Rattle.yettuvam_wgsl_requests.proofs.calls.Calls.run.Given as goal

abbrev pub invariant-loop-rest : goal.invariant-loop-rest
invariant-loop-rest l =
    run (uses_value l.uses) (calls_value l.fn.self) (lines_value l.lines)
    ≡ run (uses_value l.uses) (calls_value l.self) (lines_value l.rest)

abbrev pub decreases-loop-rest : goal.decreases-loop-rest
decreases-loop-rest l = length l.rest
