use Rattle.naga_oil_link.proofs.SourceLemmas.{has_item, from_keeps}
use Rattle.naga_oil_link.proofs.copied.OwnCopies.copy_other.Goals as goal

pub import_item-requires : goal.import_item-requires
import_item-requires c = has_item _ _ _ c.requires.source c.requires.there

pub returns-in_err-import_item-in-TypeItem-clause-source : goal.returns-in_err-import_item-in-TypeItem-clause-source
returns-in_err-import_item-in-TypeItem-clause-source c = from_keeps _ _ _ c.requires.source c.import_item.ensures.keeps

pub returns-in_ok-import_item-in-TypeItem-clause-source : goal.returns-in_ok-import_item-in-TypeItem-clause-source
returns-in_ok-import_item-in-TypeItem-clause-source c = from_keeps _ _ _ c.requires.source c.import_item.ensures.keeps
