use Rattle.naga_oil_link_laws.proofs.Throughs.{through_law}
use Rattle.naga_oil_link_laws.proofs.copies.copies_go_through_builds.Goals as goal

pub returns : goal.returns
returns c = through_law
