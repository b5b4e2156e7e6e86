use Rattle.naga_oil.proofs.ReachLawLemmas.{projection}
use Rattle.naga_oil.proofs.laws.effective_names_decide.Goals as goal

pub returns : goal.returns
returns c = λ s ds name m d e builds. projection s ds name m d e builds
