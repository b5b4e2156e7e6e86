use Rattle.naga_oil_form_laws.proofs.TurnLemmas.{functions_in_turn, all_in_turn, passing_in_turn, stubs_in_turn, functions_from_nothing}
use Rattle.naga_oil_form_laws.proofs.turns.functions_come_in_turn.Goals as goal

pub returns : goal.returns
returns c = record { imported = functions_in_turn; all = all_in_turn; passing = passing_in_turn; stubs = stubs_in_turn; from_nothing = functions_from_nothing }
