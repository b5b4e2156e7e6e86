use Rattle.naga_oil_faithful_laws.proofs.Refused.{of_another_key_refused}
use Rattle.naga_oil_faithful_laws.proofs.laws.type_of_another_key_is_refused.Goals as goal

pub returns : goal.returns
returns c = of_another_key_refused
