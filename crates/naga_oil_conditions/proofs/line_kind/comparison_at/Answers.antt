use Rattle.std.proofs.Common.{rules}
use Rattle.std.specs.Str.{chars}
use Rattle.naga_oil_conditions.specs.LineKinds.{comparison_at}
use Rattle.naga_oil_conditions.proofs.line_kind.comparison_at.Goals as goal

pub returns-in_err-name : goal.returns-in_err-name
unfolding comparison_at chars
returns-in_err-name c = search rules

pub returns-in_err-front-in-None : goal.returns-in_err-front-in-None
unfolding comparison_at chars
returns-in_err-front-in-None c = search rules

pub returns-in-Some : goal.returns-in-Some
unfolding comparison_at chars
returns-in-Some c = search rules

pub returns-in_ok-front-in-None : goal.returns-in_ok-front-in-None
unfolding comparison_at chars
returns-in_ok-front-in-None c = search rules
