use Rattle.naga_oil_pre.proofs.DirectiveGrammarLemmas.{one_directive}
use Rattle.naga_oil_pre.proofs.laws.one_directive.Goals as goal

pub returns : goal.returns
returns c = one_directive
