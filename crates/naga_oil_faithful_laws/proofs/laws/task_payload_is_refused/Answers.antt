use Rattle.naga_oil_faithful_laws.proofs.Wrong.{payload_refused}
use Rattle.naga_oil_faithful_laws.proofs.laws.task_payload_is_refused.Goals as goal

pub returns : goal.returns
returns c = payload_refused
