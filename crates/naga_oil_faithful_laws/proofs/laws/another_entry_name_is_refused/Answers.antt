use Rattle.naga_oil_faithful_laws.proofs.Wrong.{another_name_refused}
use Rattle.naga_oil_faithful_laws.proofs.laws.another_entry_name_is_refused.Goals as goal

pub returns : goal.returns
returns c = another_name_refused
