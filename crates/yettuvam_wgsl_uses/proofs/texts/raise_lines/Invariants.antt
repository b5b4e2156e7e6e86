use Rattle.std.proofs.Common.{◌≡◌, length}
use Rattle.yettuvam_wgsl_lines.specs.Line.{lines_value}
use Rattle.yettuvam_wgsl_uses.specs.Texts.{raise_lines}
use Rattle.yettuvam_wgsl_uses.proofs.texts.raise_lines.Given as goal

abbrev pub invariant-loop-line : goal.invariant-loop-line
invariant-loop-line l =
    raise_lines l.is_let l.groups (lines_value l.lines) l.fn.last
    ≡ raise_lines l.is_let l.groups (lines_value l.rest) l.last

abbrev pub decreases-loop-line : goal.decreases-loop-line
decreases-loop-line l = length l.rest
