use Rattle.naga_oil_faithful_laws.proofs.Wrong.{leaf_refused}
use Rattle.naga_oil_faithful_laws.proofs.laws.diagnostic_leaf_is_refused.Goals as goal

pub returns : goal.returns
returns c = leaf_refused
