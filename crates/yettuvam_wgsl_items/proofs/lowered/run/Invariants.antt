-- What is left of the nodes has the same answer, and gets shorter.
use Rattle.std.proofs.Common.{◌≡◌, length}
use Rattle.yettuvam_wgsl_scope.specs.Names.{bounds_view}
use Rattle.yettuvam_wgsl_items.specs.Items.{state_of}
use Rattle.yettuvam_wgsl_items.specs.Lowered.{run}
use Rattle.yettuvam_wgsl_items.proofs.lowered.run.Given as goal

abbrev pub invariant-loop-rest : goal.invariant-loop-rest
invariant-loop-rest l = run (bounds_view l.nodes) (state_of l.fn.m) ≡ run (bounds_view l.rest) (state_of l.m)

abbrev pub decreases-loop-rest : goal.decreases-loop-rest
decreases-loop-rest l = length l.rest
