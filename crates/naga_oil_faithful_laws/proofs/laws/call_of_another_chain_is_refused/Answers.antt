use Rattle.naga_oil_faithful_laws.proofs.WrongItems.{other_chain_refused}
use Rattle.naga_oil_faithful_laws.proofs.laws.call_of_another_chain_is_refused.Goals as goal

pub returns : goal.returns
returns c = other_chain_refused
