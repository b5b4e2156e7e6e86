use Rattle.naga_oil_lines.proofs.TextLemmas.{chars_before}
use Rattle.naga_oil_conditions.proofs.line_kind.run.Goals as goal

pub returns : goal.returns
returns c = chars_before _ _ _ _ c.text_before.ensures c.text_before.utf8 c.past_run.ensures.chars
