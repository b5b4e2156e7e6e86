use Rattle.naga_oil.proofs.ReachLawLemmas.{what_is_reached}
use Rattle.naga_oil.proofs.laws.what_is_reached_decides.Goals as goal

pub returns : goal.returns
returns c = λ s defs ds es name builds. what_is_reached s defs ds es name builds
