use Rattle.naga_oil.proofs.StoreLawLemmas.{kept_law, enter_law}
use Rattle.naga_oil.proofs.laws.kept_builds_stand.Goals as goal

pub returns-clause-reached : goal.returns-clause-reached
returns-clause-reached c = λ s ds defs place d b builds kept. kept_law s ds defs place d b builds kept

pub returns-clause-kept : goal.returns-clause-kept
returns-clause-kept c = λ s ds defs d b builds mid kept. enter_law s ds defs d b builds mid kept
