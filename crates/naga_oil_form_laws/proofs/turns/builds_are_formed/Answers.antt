use Rattle.naga_oil_form_laws.proofs.TurnLemmas.{whole_made, header_made}
use Rattle.naga_oil_form_laws.proofs.turns.builds_are_formed.Goals as goal

pub returns : goal.returns
returns c = record { whole = whole_made; header = header_made }
