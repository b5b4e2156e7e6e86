use Rattle.naga_oil_link_laws.proofs.Once.{held_once, held_all, linked_once}
use Rattle.naga_oil_link_laws.proofs.copies.wholes_hold_each_once.Goals as goal

pub returns : goal.returns
returns c = record { held = held_once; all = held_all; linked = linked_once }
