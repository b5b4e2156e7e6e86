use Rattle.naga_oil_faithful_laws.proofs.Pins.{number_refused}
use Rattle.naga_oil_faithful_laws.proofs.laws.type_of_an_expression_is_refused.Goals as goal

pub returns : goal.returns
returns c = number_refused
