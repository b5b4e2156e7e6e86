use Rattle.naga_oil_form_laws.proofs.TurnLemmas.{source_of, item_of, type_of, made_of, target_of}
use Rattle.naga_oil_form_laws.proofs.turns.what_a_source_has_may_come.Goals as goal

pub returns : goal.returns
returns c = record { source = source_of; item = item_of; named = type_of; made = made_of; target = target_of }
