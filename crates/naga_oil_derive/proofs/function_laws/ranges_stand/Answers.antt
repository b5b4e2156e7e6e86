use Rattle.naga_oil_derive.proofs.RangeLaws.{ranges}
use Rattle.naga_oil_derive.proofs.function_laws.ranges_stand.Goals as goal

pub returns : goal.returns
returns c = ranges
