use Rattle.naga_oil_form.proofs.FormLawLemmas.{module_tested}
use Rattle.naga_oil_form.proofs.laws.form_is_tested.Goals as goal

pub returns : goal.returns
returns c = module_tested
