use Rattle.std.proofs.Common.{◌≡◌, length}
use Rattle.yettuvam_wgsl_lines.specs.Line.{lines_value}
use Rattle.yettuvam_wgsl_uses.specs.Choice.{spread_all}
use Rattle.yettuvam_wgsl_uses.proofs.choice.spread_all.Given as goal

abbrev pub invariant-loop-line : goal.invariant-loop-line
invariant-loop-line l =
    spread_all l.facts (lines_value l.lines) l.fn.early
    ≡ spread_all l.facts (lines_value l.rest) l.early

abbrev pub decreases-loop-line : goal.decreases-loop-line
decreases-loop-line l = length l.rest
