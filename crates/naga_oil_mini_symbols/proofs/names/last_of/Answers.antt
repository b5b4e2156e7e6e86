use Rattle.std.proofs.Common.{◌-◌, cond, Some, take, sym, ap, ◌∙◌, arith}
use Rattle.naga_oil_mini_symbols.specs.NameTable.{last_place, texts_of}
use Rattle.naga_oil_mini_symbols.proofs.NameLemmas.{last_place-take}
use Rattle.naga_oil_mini_symbols.proofs.names.last_of.Goals as goal

pub returns-then-eq : goal.returns-then-eq
returns-then-eq c =
    let name = c.args.name.now in
    let names = c.args.names.now in
    let place = c.loop-place.place in
    let other = last_place name (texts_of (take (place - 1) names)) in
    ap (λ b. cond b (Some (place - 1)) other) (sym c.if-eq.true ∙ c.eq.ensures) ∙ sym (last_place-take name names place _ c.loop-place-test.true c.loop-place.invariant.within) ∙ c.loop-place.invariant.same

pub loop-place-preserved : goal.loop-place-preserved
loop-place-preserved c =
    let name = c.args.name.now in
    let names = c.args.names.now in
    let place = c.loop-place.place in
    let other = last_place name (texts_of (take (place - 1) names)) in
    record {
      within = omega arith;
      same = ap (λ b. cond b (Some (place - 1)) other) (sym c.if-eq.false ∙ c.eq.ensures) ∙ sym (last_place-take name names place _ c.loop-place-test.true c.loop-place.invariant.within) ∙ c.loop-place.invariant.same;
    }
