use Rattle.naga_oil_faithful_laws.proofs.Wrong.{without_initialiser_refused}
use Rattle.naga_oil_faithful_laws.proofs.laws.missing_initialiser_is_refused.Goals as goal

pub returns : goal.returns
returns c = without_initialiser_refused
