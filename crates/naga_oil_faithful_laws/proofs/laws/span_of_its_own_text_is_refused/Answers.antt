use Rattle.naga_oil_faithful_laws.proofs.Wrong.{own_span_refused}
use Rattle.naga_oil_faithful_laws.proofs.laws.span_of_its_own_text_is_refused.Goals as goal

pub returns : goal.returns
returns c = own_span_refused
