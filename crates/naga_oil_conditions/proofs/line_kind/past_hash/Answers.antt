use Rattle.std.proofs.Common.{rules}
use Rattle.std.specs.Str.{chars}
use Rattle.naga_oil_conditions.specs.LineKinds.{past_hash}
use Rattle.naga_oil_conditions.proofs.line_kind.past_hash.Goals as goal

pub returns : goal.returns
unfolding past_hash chars
returns c = search rules
