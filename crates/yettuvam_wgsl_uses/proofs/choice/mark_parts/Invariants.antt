use Rattle.std.proofs.Common.{◌≡◌, length}
use Rattle.yettuvam_wgsl_lines.specs.Line.{lines_value}
use Rattle.yettuvam_wgsl_uses.specs.Choice.{mark_parts}
use Rattle.yettuvam_wgsl_uses.proofs.choice.mark_parts.Given as goal

abbrev pub invariant-loop-rest : goal.invariant-loop-rest
invariant-loop-rest l =
    mark_parts l.facts l.early (lines_value l.lines) l.fn.marks
    ≡ mark_parts l.facts l.early (lines_value l.rest) l.marks

abbrev pub decreases-loop-rest : goal.decreases-loop-rest
decreases-loop-rest l = length l.rest
