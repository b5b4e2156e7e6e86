use Rattle.naga_oil_copy_laws.proofs.EntryLaws.{entry_compose}
use Rattle.naga_oil_copy_laws.proofs.laws.copies_of_entry_points_compose.Goals as goal

pub returns : goal.returns
returns c = entry_compose
