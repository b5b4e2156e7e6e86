use Rattle.naga_oil_faithful_laws.proofs.Wrong.{dangling_refused}
use Rattle.naga_oil_faithful_laws.proofs.laws.dangling_special_type_is_refused.Goals as goal

pub returns : goal.returns
returns c = dangling_refused
