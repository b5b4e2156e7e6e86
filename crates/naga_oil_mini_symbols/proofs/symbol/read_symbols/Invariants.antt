use Rattle.std.proofs.Common.{◌≡◌, ◌++◌, length, option_map}
use denote.Text.{Utf8}
use denote.Shadow.{shadow}
use Rattle.naga_oil_mini_symbols.specs.Symbols.{symbols, line_of}
use Rattle.naga_oil_mini_symbols.specs.SymbolSplits.{BeginsWithoutSpace}
use Rattle.naga_oil_mini_symbols.proofs.symbol.read_symbols.Given as goal

abbrev pub invariant-loop-rest : goal.invariant-loop-rest
invariant-loop-rest l = record {
  text : shadow (Utf8 l.rest);
  whole : option_map (λ more. line_of l.symbols.items ++ more) (symbols l.rest) ≡ symbols l.line;
  begins : BeginsWithoutSpace l.rest;
}

abbrev pub decreases-loop-rest : goal.decreases-loop-rest
decreases-loop-rest l = length l.rest
