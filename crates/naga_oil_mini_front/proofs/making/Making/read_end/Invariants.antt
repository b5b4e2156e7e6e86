use Rattle.std.proofs.Common.{◌≡◌, drop}
use Rattle.naga_oil_mini_symbols.specs.Symbols.{line_of}
use Rattle.naga_oil_mini_front.specs.Making.{made_of, read_symbols}
use Rattle.naga_oil_mini_front.proofs.making.Making.read_end.Given as goal

abbrev pub invariant-loop-symbol : goal.invariant-loop-symbol
invariant-loop-symbol l = read_symbols (line_of (drop l.symbol-index l.rest)) (made_of l.self) ≡ read_symbols (line_of l.rest) (made_of l.initial.self)
