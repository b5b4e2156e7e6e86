use Rattle.std.proofs.Common.{rules}
use Rattle.std.proofs.lemmas.Str.{chars-nil}
use Rattle.std.proofs.lemmas.List.{nil_from_length}
use Rattle.naga_oil_conditions.proofs.replace.past_char.Goals as goal

pub returns-in_err-first : goal.returns-in_err-first
returns-in_err-first c = rw (nil_from_length _ c.in_err-first.ensures, chars-nil) (search rules)
