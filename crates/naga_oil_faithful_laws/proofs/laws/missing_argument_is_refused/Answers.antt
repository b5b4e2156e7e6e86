use Rattle.naga_oil_faithful_laws.proofs.Wrong.{without_argument_refused}
use Rattle.naga_oil_faithful_laws.proofs.laws.missing_argument_is_refused.Goals as goal

pub returns : goal.returns
returns c = without_argument_refused
