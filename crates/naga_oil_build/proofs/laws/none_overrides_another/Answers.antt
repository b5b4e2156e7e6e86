use Rattle.naga_oil_build.proofs.OverridingFormLemmas.{none_overrides}
use Rattle.naga_oil_build.proofs.laws.none_overrides_another.Goals as goal

pub returns : goal.returns
returns c = none_overrides
