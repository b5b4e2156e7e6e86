use Rattle.std.proofs.Common.{◌≡◌, drop}
use Rattle.yettuvam_wgsl_valid.specs.Bindings.{mark_all}
use Rattle.yettuvam_wgsl_valid.proofs.bindings.mark_all.Given as goal

abbrev pub invariant-loop-place : goal.invariant-loop-place
invariant-loop-place l = mark_all l.places l.fn.marks ≡ mark_all (drop l.place-index l.places) l.marks
