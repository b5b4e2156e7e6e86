use Rattle.naga_oil_redirect.proofs.ChainLemmas.{chain_law, start_law, step_law}
use Rattle.naga_oil_redirect.proofs.laws.calls_go_down_chains.Goals as goal

pub returns : goal.returns
returns c = record { chain = chain_law; start = start_law; step = step_law }
