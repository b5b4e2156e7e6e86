use Rattle.naga_oil_collected_laws.proofs.Items.{linked_items}
use Rattle.naga_oil_collected_laws.proofs.laws.requested_items_are_there.Goals as goal

pub returns : goal.returns
returns c = linked_items
