use Rattle.naga_oil_collected_laws.proofs.Held.{held_functions}
use Rattle.naga_oil_collected_laws.proofs.Linked.{linked_functions}
use Rattle.naga_oil_collected_laws.proofs.laws.functions_in_order_of_first_reach.Goals as goal

pub returns : goal.returns
returns c = record { linked = linked_functions; held = held_functions }
