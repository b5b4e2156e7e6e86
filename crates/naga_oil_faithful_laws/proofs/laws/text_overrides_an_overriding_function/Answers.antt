use Rattle.naga_oil_faithful_laws.proofs.Promise.{tricky}
use Rattle.naga_oil_faithful_laws.proofs.laws.text_overrides_an_overriding_function.Goals as goal

pub returns : goal.returns
returns c = tricky
