use Rattle.naga_oil_faithful_laws.proofs.Wrong.{turned_refused}
use Rattle.naga_oil_faithful_laws.proofs.laws.turned_module_is_refused.Goals as goal

pub returns : goal.returns
returns c = turned_refused
