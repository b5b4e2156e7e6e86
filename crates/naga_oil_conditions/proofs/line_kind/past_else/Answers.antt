use Rattle.std.proofs.Common.{rules}
use Rattle.std.specs.Str.{chars}
use Rattle.naga_oil_conditions.specs.LineKinds.{past_else}
use Rattle.naga_oil_conditions.proofs.line_kind.past_else.Goals as goal

pub returns-in-None : goal.returns-in-None
unfolding past_else chars
returns-in-None c = search rules

pub returns-in-None-past_white : goal.returns-in-None-past_white
unfolding past_else chars
returns-in-None-past_white c = search rules

pub returns-in-Some-past_white : goal.returns-in-Some-past_white
unfolding past_else chars
returns-in-Some-past_white c = search rules
