use Rattle.naga_oil_faithful_laws.proofs.WrongItems.{without_result_refused}
use Rattle.naga_oil_faithful_laws.proofs.laws.dropped_result_is_refused.Goals as goal

pub returns : goal.returns
returns c = without_result_refused
