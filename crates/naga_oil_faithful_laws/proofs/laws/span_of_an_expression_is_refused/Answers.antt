use Rattle.naga_oil_faithful_laws.proofs.Clauses.{expression_span_refused}
use Rattle.naga_oil_faithful_laws.proofs.laws.span_of_an_expression_is_refused.Goals as goal

pub returns : goal.returns
returns c = expression_span_refused
