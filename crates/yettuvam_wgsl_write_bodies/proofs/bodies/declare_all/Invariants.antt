use Rattle.std.proofs.Common.{◌≡◌, length}
use Rattle.yettuvam_wgsl_write_bodies.specs.Bodies.{declare_all}
use Rattle.yettuvam_wgsl_write_bodies.specs.Setting.{setting_of}
use Rattle.yettuvam_wgsl_write_bodies.specs.Writer.{state_of}
use Rattle.yettuvam_wgsl_write_bodies.proofs.bodies.declare_all.Given as goal

abbrev pub invariant-loop-rest : goal.invariant-loop-rest
invariant-loop-rest l =
    let s = setting_of l.s in
    declare_all s l.count s.uses.locals (state_of l.fn.writer) ≡ declare_all s l.count l.rest (state_of l.writer)

abbrev pub decreases-loop-rest : goal.decreases-loop-rest
decreases-loop-rest l = length l.rest
