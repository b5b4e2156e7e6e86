use Rattle.naga_oil_collected_laws.proofs.Taken.{held_items}
use Rattle.naga_oil_collected_laws.proofs.laws.taken_items_are_held.Goals as goal

pub returns : goal.returns
returns c = held_items
