use Rattle.std.proofs.Common.{◌∙◌}
use Rattle.naga_oil_ir.proofs.FirstsLemmas.{skips-covered}
use Rattle.naga_oil_ir.proofs.firsts.Firsts.before.Goals as goal

pub returns-clause-skips : goal.returns-clause-skips
returns-clause-skips g c =
    skips-covered g.T.Item.digest (λ e. g.T.PartialEq.eq c.args.item.now e.0) c.args.items.now c.cover.new.self.covered c.cover.new.self.places.entries c.digest.result c.place.result c.cover.ensures.covers c.in_ok-cover.ensures.all (λ e t. c.digest.ensures ∙ g.met.T.Merge.respects_eq c.args.item.now e.0 t) c.place.ensures
