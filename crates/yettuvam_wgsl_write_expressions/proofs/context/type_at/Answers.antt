use Rattle.naga_oil_ir.specs.Rows.{type_row}
use Rattle.yettuvam_wgsl_write_types.proofs.Getting.{got}
use Rattle.yettuvam_wgsl_write_expressions.proofs.context.type_at.Goals as goal

pub returns : goal.returns
returns c = got type_row c.args.context.now.of.now.types c.args.place c.get_handle.result (rw c.new.ensures at c.get_handle.ensures)
