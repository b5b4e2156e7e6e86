use Rattle.naga_oil_derive.proofs.CopiedLaws.{copied_named, type_again}
use Rattle.naga_oil_derive.proofs.laws.copies_under_a_name.Goals as goal

pub returns : goal.returns
returns c = record { named = copied_named; again = type_again }
