use Rattle.naga_oil_faithful_laws.proofs.Clauses.{onto_law}
use Rattle.naga_oil_faithful_laws.proofs.laws.copies_go_onto.Goals as goal

pub returns : goal.returns
returns c = onto_law
