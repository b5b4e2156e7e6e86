use Rattle.naga_oil_faithful_laws.proofs.Wrong.{name_of_none_refused}
use Rattle.naga_oil_faithful_laws.proofs.laws.name_of_no_expression_is_refused.Goals as goal

pub returns : goal.returns
returns c = name_of_none_refused
