use Rattle.naga_oil_faithful_laws.proofs.Promise.{both}
use Rattle.naga_oil_faithful_laws.proofs.laws.one_function_is_both.Goals as goal

pub returns : goal.returns
returns c = both
