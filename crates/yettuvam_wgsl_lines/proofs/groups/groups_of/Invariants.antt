use Rattle.std.proofs.Common.{◌≡◌, ◌++◌, length}
use Rattle.yettuvam_wgsl_lines.specs.Groups.{groups_from, groups_of}
use Rattle.yettuvam_wgsl_lines.specs.Line.{lines_value}
use Rattle.yettuvam_wgsl_lines.proofs.groups.groups_of.Given as goal

abbrev pub invariant-loop-rest : goal.invariant-loop-rest
invariant-loop-rest l =
    groups_of l.merged (lines_value l.lines) ≡ l.groups.items ++ groups_from l.merged l.group l.joins (lines_value l.rest)

abbrev pub decreases-loop-rest : goal.decreases-loop-rest
decreases-loop-rest l = length l.rest
