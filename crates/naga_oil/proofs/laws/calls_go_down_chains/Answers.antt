use Rattle.naga_oil.proofs.CallsLaws.{calls_law}
use Rattle.naga_oil.proofs.ChainsLaws.{chains_law, composed_law}
use Rattle.naga_oil.proofs.laws.calls_go_down_chains.Goals as goal

pub returns : goal.returns
returns c = record { chain = chains_law; compose = composed_law; call = calls_law }
