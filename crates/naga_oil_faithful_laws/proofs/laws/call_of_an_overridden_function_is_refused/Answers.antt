use Rattle.naga_oil_faithful_laws.proofs.WrongItems.{calling_base_refused}
use Rattle.naga_oil_faithful_laws.proofs.laws.call_of_an_overridden_function_is_refused.Goals as goal

pub returns : goal.returns
returns c = calling_base_refused
