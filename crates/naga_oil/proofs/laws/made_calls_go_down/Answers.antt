use Rattle.naga_oil.proofs.FaithfulLemmas.{calls_go_down}
use Rattle.naga_oil.proofs.laws.made_calls_go_down.Goals as goal

pub returns : goal.returns
returns c = calls_go_down
