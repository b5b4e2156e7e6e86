use Rattle.std.proofs.Common.{rules}
use Rattle.std.proofs.lemmas.Str.{chars-nil}
use Rattle.std.proofs.lemmas.List.{nil_from_length}
use Rattle.naga_oil_conditions.specs.LineKinds.{past_white}
use Rattle.naga_oil_conditions.proofs.line_kind.past_white.Goals as goal

pub returns-in_err-first : goal.returns-in_err-first
unfolding past_white
returns-in_err-first c = rw (nil_from_length _ c.in_err-first.ensures, chars-nil) (search rules)

pub returns-then-is_whitespace : goal.returns-then-is_whitespace
unfolding past_white
returns-then-is_whitespace c = rw c.in_ok-first.ensures.spelled (search rules)

pub returns-else-is_whitespace : goal.returns-else-is_whitespace
unfolding past_white
returns-else-is_whitespace c = rw c.in_ok-first.ensures.spelled (search rules)
