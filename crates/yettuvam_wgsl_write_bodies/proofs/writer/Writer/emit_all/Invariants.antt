use Rattle.std.proofs.Common.{◌≡◌, length}
use Rattle.naga_oil_ir.specs.ModuleValue.{expression_values}
use Rattle.yettuvam_wgsl_write_bodies.specs.Setting.{setting_of}
use Rattle.yettuvam_wgsl_write_bodies.specs.Writer.{emit_all, state_of}
use Rattle.yettuvam_wgsl_write_bodies.proofs.writer.Writer.emit_all.Given as goal

abbrev pub invariant-loop-rest : goal.invariant-loop-rest
invariant-loop-rest l =
    emit_all (setting_of l.s) l.end (expression_values l.rest) (state_of l.self) ≡ emit_all (setting_of l.s) l.end (expression_values l.expressions) (state_of l.fn.self)

abbrev pub decreases-loop-rest : goal.decreases-loop-rest
decreases-loop-rest l = length l.rest
