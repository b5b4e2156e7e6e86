use Rattle.naga_oil.proofs.AfreshLemmas.{afresh_law}
use Rattle.naga_oil.proofs.AfreshReadLemmas.{reading_law}
use Rattle.naga_oil.proofs.laws.earlier_builds_change_nothing.Goals as goal

pub returns-clause-reached : goal.returns-clause-reached
returns-clause-reached c = λ s ds defs all. afresh_law s ds defs all

pub returns-clause-read : goal.returns-clause-read
returns-clause-read c = λ s ds defs text shader bs all st. reading_law s ds defs text shader bs all st
