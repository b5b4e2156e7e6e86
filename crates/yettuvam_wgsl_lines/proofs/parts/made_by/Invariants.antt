use Rattle.std.proofs.Common.{◌≡◌, length}
use Rattle.yettuvam_wgsl_lines.specs.Parts.{made_by}
use Rattle.yettuvam_wgsl_lines.proofs.parts.made_by.Given as goal

abbrev pub invariant-loop-rest : goal.invariant-loop-rest
invariant-loop-rest l = made_by l.tokens ≡ made_by l.rest

abbrev pub decreases-loop-rest : goal.decreases-loop-rest
decreases-loop-rest l = length l.rest
