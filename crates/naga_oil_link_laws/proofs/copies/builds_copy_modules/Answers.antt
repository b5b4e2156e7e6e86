use Rattle.naga_oil_link_laws.proofs.Holds.{held_parse}
use Rattle.naga_oil_link_laws.proofs.copies.builds_copy_modules.Goals as goal

pub returns : goal.returns
returns c = held_parse
