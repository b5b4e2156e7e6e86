use Rattle.std.proofs.Common.{◌≡◌, length, take, sym, ap, ◌∙◌, arith}
use Rattle.std.proofs.lemmas.List.{length-take-le, take_more, take_all}
use Rattle.naga_oil_mini_symbols.specs.NameTable.{last_place, texts_of}
use Rattle.naga_oil_mini_symbols.proofs.NameLemmas.{place_in-insert}
use Rattle.naga_oil_mini_symbols.proofs.names.places_of.Goals as goal

pub loop-place-preserved : goal.loop-place-preserved
loop-place-preserved c =
    let names = c.args.names.now in
    let place = c.loop-place.place in
    let so_far : place ≡ length (take place names) = sym (length-take-le place names (omega arith)) in
    λ q. place_in-insert _ (take place names) c.loop-place.places c.insert.new.self place c.in_ok-insert.ensures.updates so_far c.loop-place.invariant q
    ∙ ap (λ ts. last_place q (texts_of ts)) (sym (take_more names place _ c.loop-place-test.true))

pub returns : goal.returns
returns c = λ q. c.loop-place.invariant q ∙ ap (λ ts. last_place q (texts_of ts)) (take_all c.loop-place.place c.args.names.now (omega arith))
