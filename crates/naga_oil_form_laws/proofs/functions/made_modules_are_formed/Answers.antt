use Rattle.naga_oil_form_laws.proofs.EntryLemmas.{module_made}
use Rattle.naga_oil_form_laws.proofs.functions.made_modules_are_formed.Goals as goal

pub returns : goal.returns
returns c = module_made
