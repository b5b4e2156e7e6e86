use Rattle.std.proofs.Common.{sym, subst}
use Rattle.naga_oil_registry.specs.RegistryView.{AreMarks}
use Rattle.naga_oil_registry.proofs.RemovedLemmas.{all-stay}
use Rattle.naga_oil_registry.proofs.registry.unmark.Goals as goal

pub returns-then-is_empty : goal.returns-then-is_empty
returns-then-is_empty c = λ ds h. subst (AreMarks c.args.taken.now.items) (sym (all-stay c.args.gone.now ds (c.is_empty.ensures.0 c.if-is_empty.true))) h
