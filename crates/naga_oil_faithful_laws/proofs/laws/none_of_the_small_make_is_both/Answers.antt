use Rattle.naga_oil_faithful_laws.proofs.Promise.{none}
use Rattle.naga_oil_faithful_laws.proofs.laws.none_of_the_small_make_is_both.Goals as goal

pub returns : goal.returns
returns c = none
