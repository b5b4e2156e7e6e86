use Rattle.naga_oil_derive.proofs.KindLaws.{value_kinds, value_copyable}
use Rattle.naga_oil_derive.proofs.laws.copyable_values.Goals as goal

pub returns : goal.returns
returns c = record { kinds = value_kinds; items = value_copyable }
