use Rattle.naga_oil_ir.specs.Rows.{override_row}
use Rattle.yettuvam_wgsl_write_types.proofs.Getting.{got}
use Rattle.yettuvam_wgsl_write_types.proofs.types.Known.override_at.Goals as goal

pub returns : goal.returns
returns c = got override_row c.args.self.now.of.now.overrides c.args.of c.try_get.result c.try_get.ensures
