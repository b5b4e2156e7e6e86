use Rattle.std.proofs.Common.{◌≡◌, length}
use Rattle.yettuvam_wgsl_uses.specs.Texts.{raise_all}
use Rattle.yettuvam_wgsl_uses.proofs.texts.raise_all.Given as goal

abbrev pub invariant-loop-rest : goal.invariant-loop-rest
invariant-loop-rest l =
    raise_all l.operands l.group l.fn.last
    ≡ raise_all l.rest l.group l.last

abbrev pub decreases-loop-rest : goal.decreases-loop-rest
decreases-loop-rest l = length l.rest
