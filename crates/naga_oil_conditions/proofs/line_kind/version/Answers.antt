use Rattle.std.proofs.Common.{rules}
use Rattle.std.specs.Str.{chars}
use Rattle.naga_oil_conditions.specs.LineKinds.{version}
use Rattle.naga_oil_conditions.proofs.line_kind.version.Goals as goal

pub returns-in_err-past_word : goal.returns-in_err-past_word
unfolding version chars
returns-in_err-past_word c = search rules

pub returns-in_err-rest : goal.returns-in_err-rest
unfolding version chars
returns-in_err-rest c = search rules

pub returns-in_err-number : goal.returns-in_err-number
unfolding version chars
returns-in_err-number c = search rules

pub returns-then-eq : goal.returns-then-eq
unfolding version chars
returns-then-eq c = search rules

pub returns-else-eq : goal.returns-else-eq
unfolding version chars
returns-else-eq c = search rules
