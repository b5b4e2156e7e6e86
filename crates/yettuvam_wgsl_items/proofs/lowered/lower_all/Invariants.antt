-- What is left of the places has the same answer, and gets shorter.
use Rattle.std.proofs.Common.{◌≡◌, length}
use Rattle.yettuvam_wgsl_scope.specs.Items.{items_view}
use Rattle.yettuvam_wgsl_items.specs.Items.{state_of}
use Rattle.yettuvam_wgsl_items.specs.Lowered.{lower_all, nodes_view}
use Rattle.yettuvam_wgsl_items.proofs.lowered.lower_all.Given as goal

abbrev pub invariant-loop-rest : goal.invariant-loop-rest
invariant-loop-rest l =
    lower_all (items_view l.items) (nodes_view l.nodes) l.places (state_of l.fn.m)
    ≡ lower_all (items_view l.items) (nodes_view l.nodes) l.rest (state_of l.m)

abbrev pub decreases-loop-rest : goal.decreases-loop-rest
decreases-loop-rest l = length l.rest
