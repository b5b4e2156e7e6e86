use Rattle.std.proofs.Common.{arith}
use Rattle.naga_oil_redirect.proofs.RedirectForm.{redirectable_formed}
use Rattle.naga_oil_probe.proofs.calls.checked.Goals as goal

pub returns : goal.returns
returns c = redirectable_formed c.args.module_ 2 (omega arith) c.in_ok-check_form.ensures.ok
