use Rattle.naga_oil_form_laws.proofs.TurnLemmas.{new_in_turn, items_in_turn}
use Rattle.naga_oil_form_laws.proofs.turns.what_is_new_comes_in_turn.Goals as goal

pub returns : goal.returns
returns c = record { functions = new_in_turn; items = items_in_turn }
