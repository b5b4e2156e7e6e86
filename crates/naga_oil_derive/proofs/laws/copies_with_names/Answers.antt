use Rattle.naga_oil_derive.proofs.CopiedLaws.{copied_item, copied_all, copied_again}
use Rattle.naga_oil_derive.proofs.laws.copies_with_names.Goals as goal

pub returns : goal.returns
returns c = record { item = copied_item; all = copied_all; again = copied_again }
