use Rattle.naga_oil_copy_laws.proofs.TurnLaws.{in_turn_law, in_order_law}
use Rattle.naga_oil_copy_laws.proofs.laws.ordered_functions_are_copies.Goals as goal

pub returns : goal.returns
returns c = record { in_turn = in_turn_law; in_order = in_order_law }
