use Rattle.naga_oil_form_laws.proofs.CopyFormLemmas.{copy_form}
use Rattle.naga_oil_form_laws.proofs.functions.copies_have_form.Goals as goal

pub returns : goal.returns
returns c = copy_form
