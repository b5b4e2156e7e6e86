use Rattle.naga_oil_pre.proofs.Agreement.{recorded_names_decide}
use Rattle.naga_oil_pre.proofs.laws.recorded_names_decide.Goals as goal

pub returns : goal.returns
returns c = λ text d e. recorded_names_decide text d e
