use Rattle.naga_oil_derive.proofs.SetLaws.{set_law}
use Rattle.naga_oil_derive.proofs.laws.derivations_with_a_source.Goals as goal

pub returns : goal.returns
returns c = set_law
