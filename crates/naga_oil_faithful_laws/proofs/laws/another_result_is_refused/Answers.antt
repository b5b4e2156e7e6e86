use Rattle.naga_oil_faithful_laws.proofs.Wrong.{result_refused}
use Rattle.naga_oil_faithful_laws.proofs.laws.another_result_is_refused.Goals as goal

pub returns : goal.returns
returns c = result_refused
