use Rattle.std.proofs.Common.{◌≡◌, ◌<◌, ◌++◌, ◌∷◌, [], length, set, Some, None, sym, subst, ap, ◌∙◌, arith}
use Rattle.std.proofs.lemmas.Grind.{common_steps}
use Rattle.std.proofs.lemmas.List.{set-append_left}
use Rattle.naga_oil_mini_symbols.specs.NameTable.{last_place}
use Rattle.naga_oil_mini_writer.specs.Order.{greatest_count, next_places}
use Rattle.naga_oil_mini_writer.proofs.OrderLemmas.{next_places-more, length-next_places, last_place-bound}
use Rattle.naga_oil_mini_writer.proofs.order.NextNames.push.Goals as goal

pub index_mut-requires : goal.index_mut-requires
index_mut-requires c =
    let found : last_place c.args.name.now c.self.inside.names ≡ Some c.in-Some.place = sym c.in-Ok-Ok.ensures.before ∙ c.in-Some.is in
    grind (arith, common_steps, last_place-bound c.args.name.now c.self.inside.names c.in-Some.place found, length-next_places)

pub invariant_of-self-in-Some : goal.invariant_of-self-in-Some
invariant_of-self-in-Some c =
    let found : last_place c.args.name.now c.self.inside.names ≡ Some c.in-Some.place = sym c.in-Ok-Ok.ensures.before ∙ c.in-Some.is in
    let more = next_places-more c.args.name.now c.self.inside.names (Some c.in-Some.place) found in
    let next = c.self.inside.next.items in
    let place = c.in-Some.place in
    let count : c.len-count.result ≡ length c.self.inside.names = grind (arith, common_steps, length-next_places) in
    let many : length next ≡ length c.self.inside.names = ap length c.self.invariant ∙ length-next_places 0 c.self.inside.names in
    let within : place < length next = subst (λ n. place < n) (sym many) (last_place-bound c.args.name.now c.self.inside.names place found) in
    ap (λ ps. set ps place c.len-count.result) c.in-Ok-Ok.ensures'.items ∙ set-append_left next (greatest_count ∷ []) place c.len-count.result within
    ∙ (λ i. set (c.self.invariant i) place (count i) ++ greatest_count ∷ []) ∙ sym more ∙ ap (next_places 0) (sym c.in-Ok-Ok.ensures.names)

pub invariant_of-self-in_default-before : goal.invariant_of-self-in_default-before
invariant_of-self-in_default-before c =
    let none : last_place c.args.name.now c.self.inside.names ≡ None = sym c.in-Ok-Ok.ensures.before ∙ c.in_default-before.is in
    let more = next_places-more c.args.name.now c.self.inside.names None none in
    grind (arith, common_steps)
