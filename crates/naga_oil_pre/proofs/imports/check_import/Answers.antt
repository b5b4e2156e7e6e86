use Rattle.naga_oil_pre.proofs.LoopLemmas.{import_fits}
use Rattle.naga_oil_pre.proofs.imports.check_import.Goals as goal

pub import_error-requires : goal.import_error-requires
import_error-requires c = import_fits c.args.import.now c.in-Err.fault c.args.offset c.utf8.import c.in-Err.ensures.err c.requires
