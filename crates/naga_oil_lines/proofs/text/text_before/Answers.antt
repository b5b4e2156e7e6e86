use Rattle.naga_oil_lines.proofs.TextLemmas.{cut_before_rest}
use Rattle.naga_oil_lines.proofs.text.text_before.Goals as goal

pub split_at-requires : goal.split_at-requires
split_at-requires c = cut_before_rest _ _ _ c.requires.1 c.utf8.rest
