use Rattle.std.proofs.Common.{◌≡◌, length}
use Rattle.yettuvam_wgsl_write_bodies.specs.Setting.{setting_of}
use Rattle.yettuvam_wgsl_write_bodies.specs.Writer.{run, state_of}
use Rattle.yettuvam_wgsl_write_bodies.proofs.writer.Writer.run.Given as goal

abbrev pub invariant-loop-rest : goal.invariant-loop-rest
invariant-loop-rest l =
    run (setting_of l.s) l.count l.tokens (state_of l.fn.self) ≡ run (setting_of l.s) l.count l.rest (state_of l.self)

abbrev pub decreases-loop-rest : goal.decreases-loop-rest
decreases-loop-rest l = length l.rest
