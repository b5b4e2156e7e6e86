use Rattle.naga_oil_faithful_laws.proofs.WrongItems.{number_argument_refused}
use Rattle.naga_oil_faithful_laws.proofs.laws.argument_of_another_type_is_refused.Goals as goal

pub returns : goal.returns
returns c = number_argument_refused
