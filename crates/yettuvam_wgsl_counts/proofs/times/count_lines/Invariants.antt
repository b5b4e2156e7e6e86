use Rattle.std.proofs.Common.{◌≡◌, length}
use Rattle.yettuvam_wgsl_lines.specs.Line.{lines_value}
use Rattle.yettuvam_wgsl_counts.specs.Times.{count_lines}
use Rattle.yettuvam_wgsl_counts.proofs.times.count_lines.Given as goal

abbrev pub invariant-loop-rest : goal.invariant-loop-rest
invariant-loop-rest l =
    count_lines l.fn.times (lines_value l.lines) ≡ count_lines l.times (lines_value l.rest)

abbrev pub decreases-loop-rest : goal.decreases-loop-rest
decreases-loop-rest l = length l.rest
