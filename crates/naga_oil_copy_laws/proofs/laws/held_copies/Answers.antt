use Rattle.naga_oil_copy_laws.proofs.HeldLaws.{held_copies, localized}
use Rattle.naga_oil_copy_laws.proofs.laws.held_copies.Goals as goal

pub returns : goal.returns
returns c = record { held = held_copies; localized = localized }
