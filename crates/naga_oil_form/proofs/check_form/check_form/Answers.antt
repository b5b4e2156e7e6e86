use Rattle.naga_oil_form.proofs.FormGivenLemmas.{given_by}
use Rattle.naga_oil_form.proofs.FormLawLemmas.{module_tested}
use Rattle.naga_oil_form.proofs.check_form.check_form.Goals as goal

pub returns-clause-value : goal.returns-clause-value
returns-clause-value c =
    given_by c.test_form.result _ (module_tested c.args.of.now c.args.decoration.now c.args.text_len) c.test_form.ensures.ok c.test_form.ensures.err
