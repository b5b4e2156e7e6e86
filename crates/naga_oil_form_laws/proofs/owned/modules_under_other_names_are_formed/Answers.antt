use Rattle.naga_oil_form_laws.proofs.OwnedLemmas.{module_named, decoration_keeps}
use Rattle.naga_oil_form_laws.proofs.owned.modules_under_other_names_are_formed.Goals as goal

pub returns : goal.returns
returns c = record { named = module_named; decoration = decoration_keeps }
