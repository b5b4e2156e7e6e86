use Rattle.naga_oil_derive.proofs.NameLaws.{names}
use Rattle.naga_oil_derive.proofs.function_laws.the_last_name_stays.Goals as goal

pub returns : goal.returns
returns c = names
