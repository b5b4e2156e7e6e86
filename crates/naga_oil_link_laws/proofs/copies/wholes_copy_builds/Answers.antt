use Rattle.naga_oil_link_laws.proofs.Wholes.{linked_copies}
use Rattle.naga_oil_link_laws.proofs.copies.wholes_copy_builds.Goals as goal

pub returns : goal.returns
returns c = linked_copies
