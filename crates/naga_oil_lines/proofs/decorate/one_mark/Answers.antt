use Rattle.naga_oil_lines.proofs.MarkLemmas.{mark_read, mark_is_read}
use Rattle.naga_oil_lines.proofs.decorate.one_mark.Goals as goal

pub returns : goal.returns
returns c = λ mark text code rest. (mark_read mark text code rest, mark_is_read mark text code rest)
