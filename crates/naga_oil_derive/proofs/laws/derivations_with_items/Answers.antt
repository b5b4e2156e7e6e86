use Rattle.naga_oil_derive.proofs.DerivedLaws.{import_law, rename_law}
use Rattle.naga_oil_derive.proofs.laws.derivations_with_items.Goals as goal

pub returns : goal.returns
returns c = record { import = import_law; rename = rename_law }
