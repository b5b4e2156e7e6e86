use Rattle.naga_oil_faithful_laws.proofs.Pins.{another_name_refused}
use Rattle.naga_oil_faithful_laws.proofs.laws.name_of_its_own_is_refused.Goals as goal

pub returns : goal.returns
returns c = another_name_refused
