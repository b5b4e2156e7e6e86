use Rattle.naga_oil_faithful_laws.proofs.Refused.{calling_itself_refused}
use Rattle.naga_oil_faithful_laws.proofs.laws.redirected_call_in_the_override_is_refused.Goals as goal

pub returns : goal.returns
returns c = calling_itself_refused
