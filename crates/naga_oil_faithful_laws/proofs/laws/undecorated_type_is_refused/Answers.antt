use Rattle.naga_oil_faithful_laws.proofs.Clauses.{plain_struct_refused}
use Rattle.naga_oil_faithful_laws.proofs.laws.undecorated_type_is_refused.Goals as goal

pub returns : goal.returns
returns c = plain_struct_refused
