-- A line is cut into symbols from its front.
use Rattle.std.specs.Prelude.{◌≡◌, ◌≢◌, ℕ, ◌<◌, true, false, List, ◌++◌, length, slice_index, Option, Some, None, MatchOption}
use Rattle.std.specs.List.{list_all}
use Rattle.std.specs.Borrow.{Bor}
use Rattle.naga_oil_mini_symbols.specs.Symbols.{Piece, is_name_char, begins_with_name_char, symbol_before, symbols_of, pieces, symbol_of}
use Rattle.naga_oil_mini_symbols.specs.declared.symbol.Symbol.{Symbol as SymbolOfCode}

-- characters of names
abbrev pub IsRun : List ℕ → Type 0
IsRun run = list_all is_name_char run ≡ true

-- the run is all characters of names that the text begins with, and the rest is after it
pub record SplitsRun (text run rest : List ℕ) : Type 0 where
  pub bytes : text ≡ run ++ rest
  pub passing : IsRun run
  pub ends : begins_with_name_char rest ≡ false

-- the text begins with no space
abbrev pub BeginsWithoutSpace : List ℕ → Type 0
BeginsWithoutSpace text = slice_index text 0 ≢ 32

-- the first symbol of the pieces and a rest shorter than `len` bytes, or the pieces are no symbols
abbrev pub Begins : List Piece → ℕ → Option (SymbolOfCode × Bor (List ℕ)) → Type 0
Begins ps len found = MatchOption found (symbols_of ps ≡ None) (λ r. (symbols_of ps ≡ symbol_before (Some (symbol_of r.0)) (symbols_of (pieces r.1.now))) × (length r.1.now < len))
