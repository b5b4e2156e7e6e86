use Rattle.yettuvam_wgsl_write_expressions.specs.Operands.{select_call}
use Rattle.yettuvam_wgsl_write_expressions.proofs.operands.push_select_call.Goals as goal

pub returns : goal.returns
unfolding select_call
returns c = c.push_named_call.ensures
