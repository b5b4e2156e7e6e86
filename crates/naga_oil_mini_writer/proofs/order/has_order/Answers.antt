use Rattle.std.proofs.Common.{◌+◌, reverse, sym, arith}
use Rattle.std.proofs.lemmas.Grind.{common_steps}
use Rattle.std.proofs.lemmas.List.{length-reverse}
use Rattle.naga_oil_mini_writer.specs.Order.{has_order}
use Rattle.naga_oil_mini_writer.proofs.OrderLemmas.{fit_taken, fit_none}
use Rattle.naga_oil_mini_writer.proofs.order.has_order.Goals as goal

pub loop-preserved : goal.loop-preserved
loop-preserved c =
    let functions = c.take_last.new.functions.items in
    fit_taken (c.len.result + c.len-2.result) c.loop.counter c.loop.constants c.loop.globals c.min-constants.result c.min-globals.result c.len-in-loop.result (reverse c.loop.functions.items) (reverse c.loop.entry_points.items) c.in-Some.line
    (reverse functions) (reverse c.take_last.new.entry_points.items) _ _ c.loop-test.true (sym c.in-Some.ensures) c.min-constants.ensures c.min-globals.ensures (grind (arith, common_steps, length-reverse)) (sym c.if-not-fits.ensures) c.loop.invariant

pub returns-in_default : goal.returns-in_default
unfolding has_order
returns-in_default c = grind (arith, common_steps, fit_none, length-reverse)

pub returns-then-not-fits : goal.returns-then-not-fits
unfolding has_order
returns-then-not-fits c =
    let functions = c.take_last.new.functions.items in
    let whole =
    fit_taken (c.len.result + c.len-2.result) c.loop.counter c.loop.constants c.loop.globals c.min-constants.result c.min-globals.result c.len-in-loop.result (reverse c.loop.functions.items) (reverse c.loop.entry_points.items) c.in-Some.line
    (reverse functions) (reverse c.take_last.new.entry_points.items) _ _ c.loop-test.true (sym c.in-Some.ensures) c.min-constants.ensures c.min-globals.ensures (grind (arith, common_steps, length-reverse)) (sym c.if-not-fits.ensures) c.loop.invariant in
    grind (arith, common_steps, length-reverse)

pub returns : goal.returns
unfolding has_order
returns c = grind (arith, common_steps, length-reverse)
