use Rattle.naga_oil_faithful_laws.proofs.Refused.{unmapped_refused}
use Rattle.naga_oil_faithful_laws.proofs.laws.unmapped_operand_is_refused.Goals as goal

pub returns : goal.returns
returns c = unmapped_refused
