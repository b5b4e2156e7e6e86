use Rattle.naga_oil_faithful_laws.proofs.WrongItems.{without_helper_refused}
use Rattle.naga_oil_faithful_laws.proofs.laws.missing_function_is_refused.Goals as goal

pub returns : goal.returns
returns c = without_helper_refused
