use Rattle.naga_oil_link.proofs.SourceLemmas.{can_import_stub, from_keeps_functions}
use Rattle.naga_oil_link.proofs.copied.OwnCopies.copy_stub.Goals as goal

pub import_function-requires : goal.import_function-requires
import_function-requires c = can_import_stub _ _ c.requires.source _ _ c.requires.function c.in_ok-stub.ensures

pub returns-in_err-import_function-clause-source : goal.returns-in_err-import_function-clause-source
returns-in_err-import_function-clause-source c = from_keeps_functions _ _ _ c.requires.source c.import_function.ensures.keeps

pub returns-clause-source : goal.returns-clause-source
returns-clause-source c = from_keeps_functions _ _ _ c.requires.source c.import_function.ensures.keeps
