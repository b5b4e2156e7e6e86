use Rattle.std.proofs.Common.{◌≡◌, ◌-◌, reverse}
use Rattle.naga_oil_mini_writer.specs.Order.{fit, greatest_count, needing}
use Rattle.naga_oil_mini_writer.proofs.order.has_order.Given as goal

abbrev pub invariant-loop : goal.invariant-loop
invariant-loop l =
    fit (l.end - l.counter) l.constants l.globals (reverse l.functions.items) (reverse l.entry_points.items)
    ≡ fit l.end greatest_count greatest_count (reverse (needing 0 0 l.fn.functions.items)) (reverse l.fn.entry_points.items)
