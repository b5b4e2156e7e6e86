use Rattle.std.proofs.Common.{arith}
use Rattle.naga_oil_mini_symbols.proofs.SymbolLemmas.{marked_names}
use Rattle.naga_oil_mini_symbols.proofs.symbol.is_name_byte.Goals as goal

pub returns : goal.returns
returns c = marked_names c.args.byte (omega arith)
