use Rattle.naga_oil_collected_laws.proofs.HeldOrder.{held_order}
use Rattle.naga_oil_collected_laws.proofs.LinkOrder.{linked_order}
use Rattle.naga_oil_collected_laws.proofs.laws.items_in_order_of_first_reach.Goals as goal

pub returns : goal.returns
returns c = record { linked = linked_order; held = held_order }
