use Rattle.naga_oil_ir.specs.Rows.{global_row}
use Rattle.yettuvam_wgsl_write_types.proofs.Getting.{got}
use Rattle.yettuvam_wgsl_write_expressions.proofs.context.global_at.Goals as goal

pub returns : goal.returns
returns c = got global_row c.args.context.now.of.now.global_variables c.args.place c.try_get.result c.try_get.ensures
