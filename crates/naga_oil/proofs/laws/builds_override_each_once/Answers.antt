use Rattle.naga_oil.proofs.MadeOverridingLemmas.{made_overriding}
use Rattle.naga_oil.proofs.laws.builds_override_each_once.Goals as goal

pub returns : goal.returns
returns c = made_overriding
