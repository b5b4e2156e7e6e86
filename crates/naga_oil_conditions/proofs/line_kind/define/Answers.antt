use Rattle.std.proofs.Common.{rules}
use Rattle.std.specs.Str.{chars}
use Rattle.naga_oil_conditions.specs.LineKinds.{define}
use Rattle.naga_oil_conditions.proofs.line_kind.define.Goals as goal

pub returns-in_err-rest : goal.returns-in_err-rest
unfolding define chars
returns-in_err-rest c = search rules

pub returns-in_err-name : goal.returns-in_err-name
unfolding define chars
returns-in_err-name c = search rules

pub returns : goal.returns
unfolding define chars
returns c = search rules
