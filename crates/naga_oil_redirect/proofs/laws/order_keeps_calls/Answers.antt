use Rattle.naga_oil_redirect.proofs.TurnCalls.{order_law}
use Rattle.naga_oil_redirect.proofs.laws.order_keeps_calls.Goals as goal

pub returns : goal.returns
returns c = order_law
