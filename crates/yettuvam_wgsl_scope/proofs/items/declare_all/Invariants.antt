use Rattle.std.proofs.Common.{◌≡◌, length}
use Rattle.yettuvam_wgsl_scope.specs.Items.{declare_all, item_in, items_view}
use Rattle.yettuvam_wgsl_scope.proofs.items.declare_all.Given as goal

abbrev pub invariant-loop-rest : goal.invariant-loop-rest
invariant-loop-rest l =
    declare_all (items_view l.items) (items_view l.items) (item_in l.fn.names)
    ≡ declare_all (items_view l.items) (items_view l.rest) (item_in l.names)

abbrev pub decreases-loop-rest : goal.decreases-loop-rest
decreases-loop-rest l = length l.rest
