use Rattle.std.proofs.Common.{rules}
use Rattle.std.specs.Str.{chars}
use Rattle.naga_oil_conditions.specs.LineKinds.{has_keyword}
use Rattle.naga_oil_conditions.proofs.line_kind.has_keyword.Goals as goal

pub returns : goal.returns
unfolding has_keyword chars
returns c = search rules
