use Rattle.naga_oil_link.proofs.SourceLemmas.{has_item, from_keeps}
use Rattle.naga_oil_link.proofs.copied.OwnCopies.copy_own.Goals as goal

pub import_own-requires : goal.import_own-requires
import_own-requires c = has_item _ _ _ c.requires.source c.requires.there

pub returns-in_err-went-clause-source : goal.returns-in_err-went-clause-source
returns-in_err-went-clause-source c = from_keeps _ _ _ c.requires.source c.import_own.ensures.keeps

pub returns-clause-source : goal.returns-clause-source
returns-clause-source c = from_keeps _ _ _ c.requires.source c.import_own.ensures.keeps
