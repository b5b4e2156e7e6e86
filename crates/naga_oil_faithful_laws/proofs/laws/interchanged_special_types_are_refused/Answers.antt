use Rattle.naga_oil_faithful_laws.proofs.Turned.{turned_special_types_refused}
use Rattle.naga_oil_faithful_laws.proofs.laws.interchanged_special_types_are_refused.Goals as goal

pub returns : goal.returns
returns c = turned_special_types_refused
