use Rattle.naga_oil.proofs.StoreForgetLemmas.{forget_law}
use Rattle.naga_oil.proofs.laws.kept_builds_stay.Goals as goal

pub returns : goal.returns
returns c = forget_law
