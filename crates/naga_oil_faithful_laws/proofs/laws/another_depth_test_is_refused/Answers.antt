use Rattle.naga_oil_faithful_laws.proofs.Wrong.{depth_test_refused}
use Rattle.naga_oil_faithful_laws.proofs.laws.another_depth_test_is_refused.Goals as goal

pub returns : goal.returns
returns c = depth_test_refused
