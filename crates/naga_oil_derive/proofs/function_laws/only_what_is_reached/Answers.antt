use Rattle.naga_oil_derive.proofs.ReachedLaws.{reached}
use Rattle.naga_oil_derive.proofs.function_laws.only_what_is_reached.Goals as goal

pub returns : goal.returns
returns c = reached
