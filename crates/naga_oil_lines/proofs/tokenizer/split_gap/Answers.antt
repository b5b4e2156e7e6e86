use Rattle.naga_oil_lines.specs.Words.{is_gap_byte}
use Rattle.naga_oil_lines.proofs.WordLemmas.{run_ends, gap_ascii}
use Rattle.naga_oil_lines.proofs.tokenizer.split_gap.Goals as goal

pub split_at-requires : goal.split_at-requires
split_at-requires c = rw (c.gap_len.ensures, c.as_bytes.ensures.value) (run_ends is_gap_byte gap_ascii c.args.text.now c.utf8.text)
