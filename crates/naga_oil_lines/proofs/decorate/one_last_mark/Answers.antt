use Rattle.naga_oil_lines.proofs.MarkLemmas.{split_read, split_is_read}
use Rattle.naga_oil_lines.proofs.decorate.one_last_mark.Goals as goal

pub returns : goal.returns
returns c = λ run text code rest. (split_read run text code rest, λ h. split_is_read run h.0 code rest h.2 text h.1)
