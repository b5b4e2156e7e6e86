use Rattle.naga_oil_copy_laws.proofs.CallLaws.{calls_kept, given}
use Rattle.naga_oil_copy_laws.proofs.laws.functions_call_what_they_name.Goals as goal

pub returns : goal.returns
returns c = record { given = given; copies = calls_kept }
