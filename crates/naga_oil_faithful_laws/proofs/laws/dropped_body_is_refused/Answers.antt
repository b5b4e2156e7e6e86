use Rattle.naga_oil_faithful_laws.proofs.Refused.{without_body_refused}
use Rattle.naga_oil_faithful_laws.proofs.laws.dropped_body_is_refused.Goals as goal

pub returns : goal.returns
returns c = without_body_refused
