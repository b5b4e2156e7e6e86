use Rattle.naga_oil_faithful_laws.proofs.Wrong.{statement_span_refused}
use Rattle.naga_oil_faithful_laws.proofs.laws.span_of_a_statement_is_refused.Goals as goal

pub returns : goal.returns
returns c = statement_span_refused
