use Rattle.naga_oil_redirect.proofs.NamedCalls.{begins_chains}
use Rattle.naga_oil_redirect.proofs.redirect.Redirector.new.Goals as goal

pub returns-clause-begins : goal.returns-clause-begins
returns-clause-begins c = begins_chains c.args.shader c.requires
