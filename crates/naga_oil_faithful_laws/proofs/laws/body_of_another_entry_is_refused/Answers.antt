use Rattle.naga_oil_faithful_laws.proofs.Refused.{of_another_entry_refused}
use Rattle.naga_oil_faithful_laws.proofs.laws.body_of_another_entry_is_refused.Goals as goal

pub returns : goal.returns
returns c = of_another_entry_refused
