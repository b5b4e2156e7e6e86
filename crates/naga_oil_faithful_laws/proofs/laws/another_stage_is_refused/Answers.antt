use Rattle.naga_oil_faithful_laws.proofs.Wrong.{another_stage_refused}
use Rattle.naga_oil_faithful_laws.proofs.laws.another_stage_is_refused.Goals as goal

pub returns : goal.returns
returns c = another_stage_refused
