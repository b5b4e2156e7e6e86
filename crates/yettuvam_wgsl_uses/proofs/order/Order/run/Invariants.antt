use Rattle.std.proofs.Common.{◌≡◌, length}
use Rattle.yettuvam_wgsl_lines.specs.Line.{lines_value}
use Rattle.yettuvam_wgsl_uses.specs.Order.{run, state_of}
use Rattle.yettuvam_wgsl_uses.proofs.order.Order.run.Given as goal

abbrev pub invariant-loop-rest : goal.invariant-loop-rest
invariant-loop-rest l =
    run l.facts (lines_value l.lines) (state_of l.fn.self)
    ≡ run l.facts (lines_value l.rest) (state_of l.self)

abbrev pub decreases-loop-rest : goal.decreases-loop-rest
decreases-loop-rest l = length l.rest
