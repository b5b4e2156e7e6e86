use Rattle.std.proofs.Common.{rules}
use Rattle.std.specs.Str.{chars}
use Rattle.naga_oil_conditions.specs.LineKinds.{arm}
use Rattle.naga_oil_conditions.proofs.line_kind.arm.Goals as goal

pub returns-in_err-past_word : goal.returns-in_err-past_word
unfolding arm chars
returns-in_err-past_word c = search rules

pub returns-in_err-rest : goal.returns-in_err-rest
unfolding arm chars
returns-in_err-rest c = search rules

pub returns : goal.returns
unfolding arm chars
returns c = search rules
