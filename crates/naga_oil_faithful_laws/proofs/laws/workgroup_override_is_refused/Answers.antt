use Rattle.naga_oil_faithful_laws.proofs.Wrong.{size_override_refused}
use Rattle.naga_oil_faithful_laws.proofs.laws.workgroup_override_is_refused.Goals as goal

pub returns : goal.returns
returns c = size_override_refused
