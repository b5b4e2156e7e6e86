use Rattle.naga_oil_faithful_laws.proofs.Promise.{promise}
use Rattle.naga_oil_faithful_laws.proofs.laws.small_make_keeps_the_promise.Goals as goal

pub returns : goal.returns
returns c = promise
