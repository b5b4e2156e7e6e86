use Rattle.naga_oil_faithful_laws.proofs.Wrong.{without_second_refused}
use Rattle.naga_oil_faithful_laws.proofs.laws.missing_entry_point_is_refused.Goals as goal

pub returns : goal.returns
returns c = without_second_refused
