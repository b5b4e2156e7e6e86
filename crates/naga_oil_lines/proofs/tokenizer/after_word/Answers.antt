use Rattle.naga_oil_lines.specs.Words.{is_word_byte}
use Rattle.naga_oil_lines.proofs.WordLemmas.{run_ends, word_ascii}
use Rattle.naga_oil_lines.proofs.tokenizer.after_word.Goals as goal

pub split_at-requires : goal.split_at-requires
split_at-requires c = rw (c.word_len.ensures, c.as_bytes.ensures.value) (run_ends is_word_byte word_ascii c.args.text.now c.utf8.text)
