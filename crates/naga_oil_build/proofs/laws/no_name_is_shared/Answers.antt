use Rattle.naga_oil_build.proofs.OverridingFormLemmas.{no_name_shared}
use Rattle.naga_oil_build.proofs.laws.no_name_is_shared.Goals as goal

pub returns : goal.returns
returns c = no_name_shared
