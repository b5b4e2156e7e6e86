use Rattle.naga_oil_faithful_laws.proofs.WrongItems.{other_type_refused}
use Rattle.naga_oil_faithful_laws.proofs.laws.type_of_no_parse_is_refused.Goals as goal

pub returns : goal.returns
returns c = other_type_refused
