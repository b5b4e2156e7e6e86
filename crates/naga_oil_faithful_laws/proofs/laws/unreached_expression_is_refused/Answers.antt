use Rattle.naga_oil_faithful_laws.proofs.Wrong.{unreached_refused}
use Rattle.naga_oil_faithful_laws.proofs.laws.unreached_expression_is_refused.Goals as goal

pub returns : goal.returns
returns c = unreached_refused
