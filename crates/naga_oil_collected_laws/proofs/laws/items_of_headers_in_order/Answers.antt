use Rattle.naga_oil_collected_laws.proofs.HeaderOrder.{held_header, linked_header}
use Rattle.naga_oil_collected_laws.proofs.laws.items_of_headers_in_order.Goals as goal

pub returns : goal.returns
returns c = record { held = held_header; linked = linked_header }
