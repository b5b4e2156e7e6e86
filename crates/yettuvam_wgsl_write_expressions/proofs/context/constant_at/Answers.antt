use Rattle.naga_oil_ir.specs.Rows.{constant_row}
use Rattle.yettuvam_wgsl_write_types.proofs.Getting.{got}
use Rattle.yettuvam_wgsl_write_expressions.proofs.context.constant_at.Goals as goal

pub returns : goal.returns
returns c = got constant_row c.args.context.now.of.now.constants c.args.place c.try_get.result c.try_get.ensures
