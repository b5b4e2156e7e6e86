use Rattle.std.proofs.Common.{◌≡◌, ℕ, ◌<◌, true, get_or}
use Rattle.naga_oil_lines.specs.Words.{is_gap_byte}
use Rattle.naga_oil_lines.proofs.tokenizer.gap_len.Given as goal

abbrev pub invariant-loop-i : goal.invariant-loop-i
invariant-loop-i l = (k : ℕ) → k < l.i → is_gap_byte (get_or l.bytes k 0) ≡ true
