use Rattle.naga_oil_faithful_laws.proofs.Turned.{two_bases_refused}
use Rattle.naga_oil_faithful_laws.proofs.laws.two_functions_of_one_name_are_refused.Goals as goal

pub returns : goal.returns
returns c = two_bases_refused
