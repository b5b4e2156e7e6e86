use Rattle.naga_oil_link.proofs.SourceLemmas.{can_import, from_keeps_functions}
use Rattle.naga_oil_link.proofs.copied.OwnCopies.copy_function.Goals as goal

pub import_function-requires : goal.import_function-requires
import_function-requires c = can_import _ _ c.requires.source _ c.requires.function

pub returns-in_err-import_function-clause-source : goal.returns-in_err-import_function-clause-source
returns-in_err-import_function-clause-source c = from_keeps_functions _ _ _ c.requires.source c.import_function.ensures.keeps

pub returns-clause-source : goal.returns-clause-source
returns-clause-source c = from_keeps_functions _ _ _ c.requires.source c.import_function.ensures.keeps
