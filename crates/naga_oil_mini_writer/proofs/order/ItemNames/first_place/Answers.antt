use Rattle.std.proofs.Common.{◌≡◌, subst, ◌∙◌}
use Rattle.std.specs.Option.{IfSome}
use Rattle.naga_oil_mini_symbols.specs.NameTable.{texts_of}
use Rattle.naga_oil_mini_writer.proofs.OrderLemmas.{first_none}
use Rattle.naga_oil_mini_writer.proofs.order.ItemNames.first_place.Goals as goal

pub returns-in-Some : goal.returns-in-Some
returns-in-Some c =
    let same : c.in-Some.found ≡ texts_of c.self.inside.texts.items = subst (λ o. IfSome o (λ t. t ≡ texts_of c.self.inside.texts.items)) c.in-Some.is c.self.invariant in
    first_none c.args.name.now c.in-Some.found c.args.self.now c.if-not-has.ensures (same ∙ c.self.view_is)
