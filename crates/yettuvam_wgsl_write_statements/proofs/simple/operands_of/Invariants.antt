use Rattle.std.proofs.Common.{◌≡◌, ◌++◌, length}
use Rattle.yettuvam_wgsl_write_statements.specs.Statements.{operands_of}
use Rattle.yettuvam_wgsl_write_statements.proofs.simple.operands_of.Given as goal

abbrev pub invariant-loop-rest : goal.invariant-loop-rest
invariant-loop-rest l = l.operands.items ++ operands_of l.rest ≡ operands_of l.tokens

abbrev pub decreases-loop-rest : goal.decreases-loop-rest
decreases-loop-rest l = length l.rest
