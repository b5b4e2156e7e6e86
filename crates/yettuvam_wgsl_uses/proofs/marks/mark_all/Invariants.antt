use Rattle.std.proofs.Common.{◌≡◌, length}
use Rattle.yettuvam_wgsl_uses.specs.Marks.{mark_all}
use Rattle.yettuvam_wgsl_uses.proofs.marks.mark_all.Given as goal

abbrev pub invariant-loop-rest : goal.invariant-loop-rest
invariant-loop-rest l =
    mark_all l.operands l.fn.marks
    ≡ mark_all l.rest l.marks

abbrev pub decreases-loop-rest : goal.decreases-loop-rest
decreases-loop-rest l = length l.rest
