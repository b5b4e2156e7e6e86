use Rattle.naga_oil_faithful_laws.proofs.Row.{row_is_faithful}
use Rattle.naga_oil_faithful_laws.proofs.laws.small_make_is_faithful.Goals as goal

pub returns : goal.returns
returns c = row_is_faithful
