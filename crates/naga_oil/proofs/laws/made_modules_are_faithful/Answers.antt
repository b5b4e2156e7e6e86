use Rattle.naga_oil.proofs.FaithfulLemmas.{faithful}
use Rattle.naga_oil.proofs.laws.made_modules_are_faithful.Goals as goal

pub returns : goal.returns
returns c = faithful
