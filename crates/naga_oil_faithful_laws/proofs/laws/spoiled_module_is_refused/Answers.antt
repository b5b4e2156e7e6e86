use Rattle.naga_oil_faithful_laws.proofs.Wrong.{spoiled_refused}
use Rattle.naga_oil_faithful_laws.proofs.laws.spoiled_module_is_refused.Goals as goal

pub returns : goal.returns
returns c = spoiled_refused
