use Rattle.naga_oil_copy_laws.proofs.ComposeLaws.{reflexive, compose, as_copied}
use Rattle.naga_oil_copy_laws.proofs.laws.copies_compose.Goals as goal

pub returns : goal.returns
returns c = record { reflexive = reflexive; compose = compose; as_copied = as_copied }
