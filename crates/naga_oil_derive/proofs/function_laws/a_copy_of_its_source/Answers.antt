use Rattle.naga_oil_derive.proofs.FunctionLaws.{alone, copies, table}
use Rattle.naga_oil_derive.proofs.function_laws.a_copy_of_its_source.Goals as goal

pub returns : goal.returns
returns c = record { copies = copies; table = table; alone = alone }
