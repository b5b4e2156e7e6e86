use Rattle.std.proofs.Common.{◌≡◌, length}
use Rattle.yettuvam_wgsl_uses.specs.Order.{mark_pending}
use Rattle.yettuvam_wgsl_uses.proofs.order.mark_pending.Given as goal

abbrev pub invariant-loop-rest : goal.invariant-loop-rest
invariant-loop-rest l =
    mark_pending l.pending l.fn.early
    ≡ mark_pending l.rest l.early

abbrev pub decreases-loop-rest : goal.decreases-loop-rest
decreases-loop-rest l = length l.rest
