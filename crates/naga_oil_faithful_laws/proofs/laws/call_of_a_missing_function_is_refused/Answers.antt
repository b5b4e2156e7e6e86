use Rattle.naga_oil_faithful_laws.proofs.Wrong.{calling_none_refused}
use Rattle.naga_oil_faithful_laws.proofs.laws.call_of_a_missing_function_is_refused.Goals as goal

pub returns : goal.returns
returns c = calling_none_refused
