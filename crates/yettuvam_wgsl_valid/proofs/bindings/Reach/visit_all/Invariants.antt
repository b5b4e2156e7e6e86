use Rattle.std.proofs.Common.{◌≡◌, length, map}
use Rattle.yettuvam_wgsl_valid.specs.Bindings.{visit_all, uses_view, state_of}
use Rattle.yettuvam_wgsl_valid.proofs.bindings.Reach.visit_all.Given as goal

abbrev pub invariant-loop-rest : goal.invariant-loop-rest
invariant-loop-rest l =
    visit_all (map uses_view l.functions) (state_of l.fn.self) ≡ visit_all (map uses_view l.rest) (state_of l.self)

abbrev pub decreases-loop-rest : goal.decreases-loop-rest
decreases-loop-rest l = length l.rest
