use Rattle.std.proofs.Common.{◌≡◌, ◌++◌, reverse, string_bytes, vec_len}
use Rattle.naga_oil_mini_symbols.specs.Symbols.{line_of}
use Rattle.naga_oil_mini_writer.specs.Writer.{symbols_text}
use Rattle.naga_oil_mini_writer.proofs.writer.push_symbols.Given as goal

abbrev pub invariant-loop-symbol : goal.invariant-loop-symbol
invariant-loop-symbol l = string_bytes l.out ++ symbols_text (reverse (line_of l.symbols.items)) ≡ string_bytes l.fn.out ++ symbols_text (reverse (line_of l.fn.symbols.items))

abbrev pub decreases-loop-symbol : goal.decreases-loop-symbol
decreases-loop-symbol l = vec_len l.symbols
