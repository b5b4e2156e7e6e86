use Rattle.naga_oil_form_laws.proofs.FormedLemmas.{function_imported, function_if_new}
use Rattle.naga_oil_form_laws.proofs.functions.modules_with_functions_stay_formed.Goals as goal

pub returns : goal.returns
returns c = record { function = function_imported; if_new = function_if_new }
