use Rattle.std.proofs.Common.{◌≡◌, ◌++◌, take, drop}
use Rattle.naga_oil_mini_writer.specs.Order.{needing}
use Rattle.naga_oil_mini_writer.proofs.order.need_in_order.Given as goal

abbrev pub invariant-loop-line : goal.invariant-loop-line
invariant-loop-line l = take l.line-index l.line-items ++ needing l.constants l.globals (drop l.line-index l.line-items) ≡ needing 0 0 l.fn.lines
