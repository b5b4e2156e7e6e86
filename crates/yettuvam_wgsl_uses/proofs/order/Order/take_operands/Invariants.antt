use Rattle.std.proofs.Common.{◌≡◌, length}
use Rattle.yettuvam_wgsl_uses.specs.Order.{take_operands, state_of}
use Rattle.yettuvam_wgsl_uses.proofs.order.Order.take_operands.Given as goal

abbrev pub invariant-loop-operand : goal.invariant-loop-operand
invariant-loop-operand l =
    take_operands l.operands (state_of l.fn.self)
    ≡ take_operands l.rest (state_of l.self)

abbrev pub decreases-loop-operand : goal.decreases-loop-operand
decreases-loop-operand l = length l.rest
