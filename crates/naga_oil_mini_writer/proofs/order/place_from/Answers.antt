use Rattle.std.proofs.Common.{◌+◌, cond, drop, sym, ap, ◌∙◌}
use Rattle.naga_oil_mini_symbols.specs.NameTable.{texts_of}
use Rattle.naga_oil_mini_writer.specs.Order.{place_from}
use Rattle.naga_oil_mini_writer.proofs.OrderLemmas.{place_step}
use Rattle.naga_oil_mini_writer.proofs.order.place_from.Goals as goal

pub returns-then-eq : goal.returns-then-eq
returns-then-eq c =
    let ts = c.args.names.now in
    let k = c.loop-place.place in
    let n = c.args.name.now in
    sym (place_step ts k n _ c.loop-place-test.true ∙ ap (λ b. cond b k (place_from (k + 1) n (texts_of (drop (k + 1) ts)))) (sym c.if-eq.ensures)) ∙ c.loop-place.invariant

pub loop-place-preserved : goal.loop-place-preserved
loop-place-preserved c =
    let ts = c.args.names.now in
    let k = c.loop-place.place in
    let n = c.args.name.now in
    sym (place_step ts k n _ c.loop-place-test.true ∙ ap (λ b. cond b k (place_from (k + 1) n (texts_of (drop (k + 1) ts)))) (sym c.if-eq.ensures)) ∙ c.loop-place.invariant
