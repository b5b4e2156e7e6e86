use Rattle.naga_oil_form_laws.proofs.RankLemmas.{formed_copyable}
use Rattle.naga_oil_form_laws.proofs.items.formed_items_can_be_copied.Goals as goal

pub returns : goal.returns
returns c = formed_copyable
