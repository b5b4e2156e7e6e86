use Rattle.naga_oil_faithful_laws.proofs.Pins.{unsent_refused}
use Rattle.naga_oil_faithful_laws.proofs.laws.unredirected_calls_are_refused.Goals as goal

pub returns : goal.returns
returns c = unsent_refused
