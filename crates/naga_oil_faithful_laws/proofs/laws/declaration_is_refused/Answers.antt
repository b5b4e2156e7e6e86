use Rattle.naga_oil_faithful_laws.proofs.Refused.{with_declaration_refused}
use Rattle.naga_oil_faithful_laws.proofs.laws.declaration_is_refused.Goals as goal

pub returns : goal.returns
returns c = with_declaration_refused
