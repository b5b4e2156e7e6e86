use Rattle.naga_oil_mini_symbols.proofs.SymbolLemmas.{trimmed_spaces, no_space_left}
use Rattle.naga_oil_mini_symbols.proofs.symbol.spaces_skipped.Goals as goal

pub returns-in-32-clause-pieces : goal.returns-in-32-clause-pieces
returns-in-32-clause-pieces c = let cuts = c.trim_start_matches.ensures.matches.0 in trimmed_spaces _ _ _ cuts.1

pub returns-in-32-clause-begins : goal.returns-in-32-clause-begins
returns-in-32-clause-begins c = let left = c.trim_start_matches.ensures.matches.1 in no_space_left _ _ left.1 left.2
