use Rattle.naga_oil_collected_laws.proofs.HeaderFunctions.{held_stubs, linked_stubs}
use Rattle.naga_oil_collected_laws.proofs.laws.headers_have_stubs.Goals as goal

pub returns : goal.returns
returns c = record { held = held_stubs; linked = linked_stubs }
