use Rattle.naga_oil_redirect.proofs.SendingLemmas.{parts-sent}
use Rattle.naga_oil_redirect.proofs.sent_calls.send_result.Goals as goal

pub returns-in_default : goal.returns-in_default
returns-in_default c = parts-sent c.args.from c.args.to c.args.expression.now c.in_default.not-CallResult
