use Rattle.naga_oil_build.proofs.OriginalsLemmas.{originals}
use Rattle.naga_oil_build.proofs.laws.originals_are_overridden.Goals as goal

pub returns : goal.returns
returns c = originals
