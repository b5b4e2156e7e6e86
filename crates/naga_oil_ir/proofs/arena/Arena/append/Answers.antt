use Rattle.std.proofs.Common.{◌∷◌, []}
use Rattle.naga_oil_ir.proofs.FirstsLemmas.{if_some, covers-append}
use Rattle.naga_oil_ir.proofs.arena.Arena.append.Goals as goal

pub invariant_of-self-2 : goal.invariant_of-self-2
invariant_of-self-2 g c =
    let put = c.in_ok-push.ensures.items in
    if_some c.self.inside.firsts (λ f h. covers-append g.T.Item.digest c.push.new.self.items c.self.inside.items.items ((c.args.item, c.args.span) ∷ []) f.value.covered f.value.places.entries put h) c.self.invariant
