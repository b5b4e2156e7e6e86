use Rattle.std.proofs.Common.{◌≡◌, ◌++◌, length}
use Rattle.yettuvam_wgsl_lines.specs.Parts.{used_by}
use Rattle.yettuvam_wgsl_lines.proofs.parts.used_by.Given as goal

abbrev pub invariant-loop-rest : goal.invariant-loop-rest
invariant-loop-rest l = used_by l.tokens ≡ l.operands.items ++ used_by l.rest

abbrev pub decreases-loop-rest : goal.decreases-loop-rest
decreases-loop-rest l = length l.rest
