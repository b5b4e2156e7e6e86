use Rattle.std.proofs.Common.{◌<◌, ℕ, List, length, Some, slice_get, sym, ap, ◌∙◌, arith}
use Rattle.std.proofs.lemmas.Grind.{common_steps}
use Rattle.std.proofs.lemmas.Option.{slice_get-get_or}
use Rattle.naga_oil_mini_writer.specs.Order.{next_places}
use Rattle.naga_oil_mini_writer.proofs.OrderLemmas.{length-next_places}
use Rattle.naga_oil_mini_writer.proofs.order.NextNames.next.Goals as goal

pub index-requires : goal.index-requires
index-requires c = grind (arith, common_steps, length-next_places, ap length c.self.invariant)

pub returns : goal.returns
returns c =
    let ns = c.self.inside.names in
    let ps = c.self.inside.next.items in
    let k = c.args.place in
    let within : k < length ps = grind (arith, common_steps, length-next_places, ap length c.self.invariant) in
    ap (λ (xs : List (List ℕ)). slice_get (next_places 0 xs) k) (sym c.self.view_is) ∙ ap (λ qs. slice_get qs k) (sym c.self.invariant) ∙ slice_get-get_or ps k c.index.result.now within ∙ ap Some (sym c.index.ensures)
