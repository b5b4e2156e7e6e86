use Rattle.naga_oil_form_laws.proofs.FormedLemmas.{nothing_is, source_cleared, imported, renamed, source_set}
use Rattle.naga_oil_form_laws.proofs.functions.modules_stay_formed.Goals as goal

pub returns : goal.returns
returns c = record { nothing = nothing_is; cleared = source_cleared; import = imported; rename = renamed; set = source_set }
