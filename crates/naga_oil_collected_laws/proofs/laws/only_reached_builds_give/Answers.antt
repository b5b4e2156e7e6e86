use Rattle.naga_oil_collected_laws.proofs.Builds.{reached_give}
use Rattle.naga_oil_collected_laws.proofs.laws.only_reached_builds_give.Goals as goal

pub returns : goal.returns
returns c = reached_give
