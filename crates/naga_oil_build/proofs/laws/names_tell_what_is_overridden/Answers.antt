use Rattle.naga_oil_build.proofs.OverridingFormLemmas.{name_law}
use Rattle.naga_oil_build.proofs.laws.names_tell_what_is_overridden.Goals as goal

pub returns : goal.returns
returns c = name_law
