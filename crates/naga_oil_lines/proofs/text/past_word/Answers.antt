use Rattle.naga_oil_lines.proofs.TextLemmas.{past_word_bytes, past_word_text}
use Rattle.naga_oil_lines.proofs.text.past_word.Goals as goal

pub returns-clause-chars : goal.returns-clause-chars
returns-clause-chars c = past_word_text _ _ _ c.utf8.word c.utf8.text c.strip_prefix.ensures.cases

pub returns-clause-bytes : goal.returns-clause-bytes
returns-clause-bytes c = past_word_bytes _ _ _ c.strip_prefix.ensures.cases
