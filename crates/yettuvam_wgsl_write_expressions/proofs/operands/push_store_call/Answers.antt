use Rattle.yettuvam_wgsl_write_expressions.specs.Operands.{store_call}
use Rattle.yettuvam_wgsl_write_expressions.proofs.operands.push_store_call.Goals as goal

pub returns : goal.returns
unfolding store_call
returns c = c.push_named_call.ensures
