use Rattle.naga_oil_faithful_laws.proofs.OwnNames.{own_names}
use Rattle.naga_oil_faithful_laws.proofs.laws.made_functions_have_own_names.Goals as goal

pub returns : goal.returns
returns c = own_names
