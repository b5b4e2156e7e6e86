use Rattle.naga_oil_derive.proofs.DerivedLaws.{nothing_derived, cleared_derived, placed_law}
use Rattle.naga_oil_derive.proofs.laws.derivations.Goals as goal

pub returns : goal.returns
returns c = record { nothing = nothing_derived; cleared = cleared_derived; placed = placed_law }
