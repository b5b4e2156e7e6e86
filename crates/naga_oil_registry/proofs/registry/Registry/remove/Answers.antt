use Rattle.std.proofs.Common.{sym, subst, ap, ◌∙◌}
use Rattle.std.specs.BTreeSet.{contains_text}
use Rattle.std.specs.Map.{values_of}
use Rattle.naga_oil_registry.specs.Registry.{reaches, standing}
use Rattle.naga_oil_registry.specs.RegistryView.{newest_first, AreUnderNames, AreMarks}
use Rattle.naga_oil_registry.proofs.KeptLemmas.{stay_named, stay_newest}
use Rattle.naga_oil_registry.proofs.RemovedLemmas.{standing-same}
use Rattle.naga_oil_registry.proofs.registry.Registry.remove.Goals as goal

pub invariant_of-self : goal.invariant_of-self
invariant_of-self c =
    let es = c.self.inside.modules.entries in
    let under = c.self.invariant.under in
    let leaves = contains_text c.in_ok-gone.gone in
    let stands = ap (λ xs. newest_first (values_of xs)) c.take_out.ensures.entries ∙ stay_newest leaves es under in
    record {
      under = subst AreUnderNames (sym c.take_out.ensures.entries) (stay_named leaves es under);
      marked = subst (AreMarks c.unmark.new.taken.items) (sym stands) (c.unmark.ensures (newest_first (values_of es)) c.self.invariant.marked);
    }

pub returns-clause-ok : goal.returns-clause-ok
returns-clause-ok c =
    let leaves = contains_text c.in_ok-gone.gone in
    ap (λ xs. newest_first (values_of xs)) c.take_out.ensures.entries ∙ stay_newest leaves c.self.inside.modules.entries c.self.invariant.under ∙ ap (standing leaves) c.self.view_is
    ∙ standing-same leaves (λ other. reaches c.args.self.now other c.args.name.now) c.in_ok-gone.ensures c.args.self.now
