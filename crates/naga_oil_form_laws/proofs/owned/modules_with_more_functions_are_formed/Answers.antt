use Rattle.naga_oil_form_laws.proofs.OwnedLemmas.{function_unbound, functions_appended}
use Rattle.naga_oil_form_laws.proofs.owned.modules_with_more_functions_are_formed.Goals as goal

pub returns : goal.returns
returns c = record { unbound = function_unbound; appended = functions_appended }
