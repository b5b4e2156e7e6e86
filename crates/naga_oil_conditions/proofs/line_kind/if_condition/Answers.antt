use Rattle.std.proofs.Common.{rules}
use Rattle.std.specs.Str.{chars}
use Rattle.naga_oil_conditions.specs.LineKinds.{if_condition}
use Rattle.naga_oil_conditions.proofs.line_kind.if_condition.Goals as goal

pub returns-in_err-is_else : goal.returns-in_err-is_else
unfolding if_condition chars
returns-in_err-is_else c = search rules

pub returns-in_err-name : goal.returns-in_err-name
unfolding if_condition chars
returns-in_err-name c = search rules

pub returns : goal.returns
unfolding if_condition chars
returns c = search rules
