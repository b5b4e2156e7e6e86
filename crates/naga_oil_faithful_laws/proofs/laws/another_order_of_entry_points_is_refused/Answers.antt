use Rattle.naga_oil_faithful_laws.proofs.Wrong.{another_order_refused}
use Rattle.naga_oil_faithful_laws.proofs.laws.another_order_of_entry_points_is_refused.Goals as goal

pub returns : goal.returns
returns c = another_order_refused
