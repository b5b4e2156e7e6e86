use Rattle.naga_oil.proofs.StoreNewLemmas.{newly_kept_law}
use Rattle.naga_oil.proofs.laws.builds_are_kept_once.Goals as goal

pub returns : goal.returns
returns c = λ ds defs kept builds. newly_kept_law ds defs kept builds
