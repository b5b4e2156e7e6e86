use Rattle.std.proofs.Common.{sym, ◌∙◌, bytes_eq}
use Rattle.std.specs.BTreeSet.{contains_text}
use Rattle.naga_oil_registry.specs.Registry as spec
use Rattle.naga_oil_registry.proofs.KeptLemmas.{find_none}
use Rattle.naga_oil_registry.proofs.RegistryLemmas.{standing-named}
use Rattle.naga_oil_registry.proofs.RemovedLemmas.{gone-registered}
use Rattle.naga_oil_registry.proofs.registry.Registry.standing.Goals as goal

pub returns-then-contains : goal.returns-then-contains
returns-then-contains c =
    let leaves = contains_text c.args.gone.now in
    sym (find_none (λ d. bytes_eq d.name c.args.name.now) (spec.standing leaves c.args.self.now) (gone-registered leaves c.args.name.now c.args.self.now (sym c.contains.ensures ∙ c.if-contains.true)))

pub returns : goal.returns
returns c =
    let leaves = contains_text c.args.gone.now in
    c.get.ensures ∙ sym (standing-named leaves c.args.name.now c.args.self.now (sym c.contains.ensures ∙ c.if-contains.false))
