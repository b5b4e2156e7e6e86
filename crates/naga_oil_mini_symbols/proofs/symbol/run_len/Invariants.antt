use Rattle.std.proofs.Common.{◌≡◌, ℕ, ◌<◌, true, get_or}
use Rattle.naga_oil_mini_symbols.specs.Symbols.{is_name_char}
use Rattle.naga_oil_mini_symbols.proofs.symbol.run_len.Given as goal

abbrev pub invariant-loop-i : goal.invariant-loop-i
invariant-loop-i l = (k : ℕ) → k < l.i → is_name_char (get_or l.bytes k 0) ≡ true
