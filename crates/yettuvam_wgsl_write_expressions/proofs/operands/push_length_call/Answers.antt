use Rattle.yettuvam_wgsl_write_expressions.specs.Operands.{length_call}
use Rattle.yettuvam_wgsl_write_expressions.proofs.operands.push_length_call.Goals as goal

pub returns : goal.returns
unfolding length_call
returns c = c.push_named_call.ensures
