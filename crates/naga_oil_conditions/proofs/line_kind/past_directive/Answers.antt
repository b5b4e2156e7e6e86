use Rattle.std.proofs.Common.{rules}
use Rattle.std.specs.Str.{chars}
use Rattle.naga_oil_conditions.specs.LineKinds.{past_directive}
use Rattle.naga_oil_conditions.proofs.line_kind.past_directive.Goals as goal

pub returns-in_err-past_word : goal.returns-in_err-past_word
unfolding past_directive chars
returns-in_err-past_word c = search rules

pub returns : goal.returns
unfolding past_directive chars
returns c = search rules
