use Rattle.std.proofs.Common.{arith}
use Rattle.naga_oil_redirect.proofs.RedirectForm.{redirectable_formed}
use Rattle.naga_oil_form_tests.proofs.redirect.redirector.Goals as goal

pub new-requires : goal.new-requires
new-requires c = redirectable_formed c.args.module 0 (omega arith) c.in_ok-check_form.ensures.ok
