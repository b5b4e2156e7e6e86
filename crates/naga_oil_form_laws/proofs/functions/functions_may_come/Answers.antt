use Rattle.naga_oil_form_laws.proofs.ImportLemmas.{each_comes}
use Rattle.naga_oil_form_laws.proofs.functions.functions_may_come.Goals as goal

pub returns : goal.returns
returns c = each_comes
