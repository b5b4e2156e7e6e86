use Rattle.naga_oil_faithful_laws.proofs.Refused.{without_special_refused}
use Rattle.naga_oil_faithful_laws.proofs.laws.untold_special_types_are_refused.Goals as goal

pub returns : goal.returns
returns c = without_special_refused
