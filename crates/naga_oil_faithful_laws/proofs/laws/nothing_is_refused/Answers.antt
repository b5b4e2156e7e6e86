use Rattle.naga_oil_faithful_laws.proofs.Wrong.{nothing_refused}
use Rattle.naga_oil_faithful_laws.proofs.laws.nothing_is_refused.Goals as goal

pub returns : goal.returns
returns c = nothing_refused
