use Rattle.naga_oil_faithful_laws.proofs.Wrong.{another_size_refused}
use Rattle.naga_oil_faithful_laws.proofs.laws.another_workgroup_size_is_refused.Goals as goal

pub returns : goal.returns
returns c = another_size_refused
