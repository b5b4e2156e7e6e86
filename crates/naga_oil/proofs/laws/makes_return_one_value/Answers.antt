use Rattle.naga_oil.proofs.RunLemmas.{each_make}
use Rattle.naga_oil.proofs.laws.makes_return_one_value.Goals as goal

pub returns : goal.returns
returns g c = each_make g.B.Backend.front
