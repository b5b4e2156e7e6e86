use Rattle.std.proofs.Common.{rules}
use Rattle.std.specs.Str.{chars}
use Rattle.naga_oil_conditions.specs.LineKinds.{named_arm}
use Rattle.naga_oil_conditions.proofs.line_kind.named_arm.Goals as goal

pub returns-in_err-is_else : goal.returns-in_err-is_else
unfolding named_arm chars
returns-in_err-is_else c = search rules

pub returns-in_err-name : goal.returns-in_err-name
unfolding named_arm chars
returns-in_err-name c = search rules

pub returns : goal.returns
unfolding named_arm chars
returns c = search rules
