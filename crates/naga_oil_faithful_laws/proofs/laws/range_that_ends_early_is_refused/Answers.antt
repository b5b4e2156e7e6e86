use Rattle.naga_oil_faithful_laws.proofs.Wrong.{ending_early_refused}
use Rattle.naga_oil_faithful_laws.proofs.laws.range_that_ends_early_is_refused.Goals as goal

pub returns : goal.returns
returns c = ending_early_refused
