use Rattle.naga_oil_copy_laws.proofs.AtHand.{at_hand}
use Rattle.naga_oil_copy_laws.proofs.TreeCopies.{made}
use Rattle.naga_oil_copy_laws.proofs.laws.copies_of_a_source.Goals as goal

pub returns : goal.returns
returns c = record { at_hand = at_hand; made = made }
