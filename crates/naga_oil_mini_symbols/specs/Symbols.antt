-- The symbols of a line of Mini.
use Rattle.std.specs.Prelude.{ℕ, Bool, false, ◌||◌, ◌&&◌, ◌==◌, not, nat_lt, if◌then◌else◌, List, [], ◌∷◌, length, slice_index, Option, Some, None, map}
use Rattle.std.specs.Char.{is_ascii_digit, is_ascii_alphanumeric}
use Rattle.std.specs.List.{list_all}
use Rattle.naga_oil_words.specs.Bytes.{underscore, space, equals_sign, plus_sign, comma as comma_byte, close_parenthesis, open_parenthesis}
use Rattle.naga_oil_conditions.specs.Values.{read_u32}
use Rattle.naga_oil_mini_symbols.specs.declared.symbol.Symbol.{Symbol as SymbolOfCode}
use Rattle.naga_oil_mini_symbols.specs.declared.symbol.Symbol.TheVariants as code

-- a symbol: a name; a name and the `(` after it; a number; one of `=`, `+`, `,` and `)`
pub data Symbol : Type 0 where
  name : List ℕ → Symbol
  opens : List ℕ → Symbol
  number : ℕ → Symbol
  equals : Symbol
  plus : Symbol
  comma : Symbol
  closes : Symbol

-- a piece of a line: a run of letters, digits and `_`, as long as it can be, or any other byte but a space
pub data Piece : Type 0 where
  run : List ℕ → Piece
  byte : ℕ → Piece

-- a character of a name
abbrev pub is_name_char : ℕ → Bool
is_name_char c = is_ascii_alphanumeric c || (c == underscore)

abbrev pub begins_with_name_char : List ℕ → Bool
begins_with_name_char [] = false
begins_with_name_char (b ∷ bs) = is_name_char b

-- a run with another character before it
abbrev pub extended : ℕ → List Piece → List Piece
extended b (run r ∷ ps) = run (b ∷ r) ∷ ps
extended b ps = run (b ∷ []) ∷ ps

-- the pieces of a line
abbrev pub pieces : List ℕ → List Piece
pieces [] = []
pieces (b ∷ bs) =
    if is_name_char b then (if begins_with_name_char bs then extended b (pieces bs) else run (b ∷ []) ∷ pieces bs)
    else (if b == space then pieces bs else byte b ∷ pieces bs)

-- a name: letters, digits and `_`, no digit first
abbrev pub is_name : List ℕ → Bool
is_name bs = (not (length bs == 0) && not (is_ascii_digit (slice_index bs 0))) && list_all is_name_char bs

-- the largest number
abbrev pub greatest_number : ℕ
greatest_number = 2147483647

abbrev pub number_from : Option ℕ → Option Symbol
number_from None = None
number_from (Some n) = if nat_lt greatest_number n then None else Some (number n)

-- the symbol of a run: a name, or a number up to the largest
abbrev pub word : List ℕ → Option Symbol
word bs = if is_name bs then Some (name bs) else number_from (read_u32 bs)

-- the symbol of a run and the `(` after it
abbrev pub opening : List ℕ → Option Symbol
opening bs = if is_name bs then Some (opens bs) else None

-- the symbol of any other byte
abbrev pub sign : ℕ → Option Symbol
sign b =
    if b == equals_sign then Some equals
    else (if b == plus_sign then Some plus
    else (if b == comma_byte then Some comma
    else (if b == close_parenthesis then Some closes else None)))

-- a symbol before others
abbrev pub symbol_before : Option Symbol → Option (List Symbol) → Option (List Symbol)
symbol_before (Some s) (Some ss) = Some (s ∷ ss)
symbol_before (Some s) None = None
symbol_before None o = None

-- the symbols of pieces, if each of them is one
abbrev pub symbols_of : List Piece → Option (List Symbol)
symbols_of [] = Some []
symbols_of (run r ∷ []) = symbol_before (word r) (Some [])
symbols_of (run r ∷ run s ∷ ps) = symbol_before (word r) (symbols_of (run s ∷ ps))
symbols_of (run r ∷ byte b ∷ ps) = if b == open_parenthesis then symbol_before (opening r) (symbols_of ps) else symbol_before (word r) (symbols_of (byte b ∷ ps))
symbols_of (byte b ∷ ps) = symbol_before (sign b) (symbols_of ps)

-- the symbols of a line
abbrev pub symbols : List ℕ → Option (List Symbol)
symbols line = symbols_of (pieces line)

-- symbols as the code has them
abbrev pub symbol_of : SymbolOfCode → Symbol
symbol_of (code.Name t) = name t.now
symbol_of (code.Opens t) = opens t.now
symbol_of (code.Number n) = number n
symbol_of code.Equals = equals
symbol_of code.Plus = plus
symbol_of code.Comma = comma
symbol_of code.Closes = closes

abbrev pub line_of : List SymbolOfCode → List Symbol
line_of ss = map symbol_of ss
