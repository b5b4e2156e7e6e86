use Rattle.naga_oil.proofs.FinishLemmas.{finish_alike}
use Rattle.naga_oil.proofs.LocalLemmas.{build_alike}
use Rattle.naga_oil.proofs.laws.builds_used_decide.Goals as goal

pub returns-clause-build : goal.returns-clause-build
returns-clause-build c = λ s d out bs cs. build_alike s d out bs cs

pub returns-clause-finish : goal.returns-clause-finish
returns-clause-finish c = λ s defs d out shader_type bs cs. finish_alike s defs d out shader_type bs cs
