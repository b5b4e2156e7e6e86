-- The kinds of lines, by a line's characters: each run is as long as possible, and the text after
-- it is ignored.
use Rattle.std.specs.Prelude.{ℕ, Bool, true, false, ◌||◌, ◌&&◌, ◌==◌, not, nat_lt, ◌-◌, bytes_eq, if◌then◌else◌, Option, Some, None, is_some, List, [], ◌∷◌, length, take, drop, codes, encode_utf8_all}
use Rattle.std.specs.List.{prefix_len, list_all}
use Rattle.std.specs.Char.{is_whitespace, is_not_whitespace, is_ascii_digit}
use Rattle.std.specs.Option.{option_map}
use Rattle.std.specs.Str.{chars}
use Rattle.ucd_perl.specs.Perl.{is_word_char}
use Rattle.naga_oil_words.specs.Bytes.{exclamation_mark, minus, less_than, equals_sign, greater_than, vertical_bar}
use Rattle.naga_oil_words.specs.OptionSteps.{◌>>=◌}
use Rattle.naga_oil_lines.specs.Text.{past_word}

-- a character of a name: a word character or `|`
abbrev pub is_name_char : ℕ → Bool
is_name_char c = is_word_char c || (c == vertical_bar)

-- a character of a value: one of a name, or `-`
abbrev pub is_value_char : ℕ → Bool
is_value_char c = is_name_char c || (c == minus)

-- one of `=!<>`
abbrev pub is_operator_char : ℕ → Bool
is_operator_char c = (c == equals_sign) || ((c == exclamation_mark) || ((c == less_than) || (c == greater_than)))

-- the run of characters of a class at the front, perhaps empty
abbrev pub run : (ℕ → Bool) → List ℕ → List ℕ
run p cs = take (prefix_len p cs) cs

-- the characters after the run
abbrev pub past_run : (ℕ → Bool) → List ℕ → List ℕ
past_run p cs = drop (prefix_len p cs) cs

-- the text of the run, if it has a character
unfoldable pub text_at : (ℕ → Bool) → List ℕ → Option (List ℕ)
text_at p cs = if prefix_len p cs == 0 then None else Some (encode_utf8_all (run p cs))

-- the characters after the white space at the front, if any
abbrev pub after_white : List ℕ → List ℕ
after_white cs = past_run is_whitespace cs

-- the characters after one or more white space characters
unfoldable pub past_white : List ℕ → Option (List ℕ)
past_white [] = None
past_white (c ∷ cs) = if is_whitespace c then Some (after_white cs) else None

-- the name at the front
abbrev pub name_text : List ℕ → Option (List ℕ)
name_text cs = text_at is_name_char cs

-- whether the whole text is a name
unfoldable pub is_name : List ℕ → Bool
is_name text = not (length text == 0) && list_all is_name_char (chars text)

-- the characters after the line's `#`, which only white space may precede; each kind below is read
-- there
unfoldable pub past_hash : List ℕ → Option (List ℕ)
past_hash line = past_word (codes "#") (after_white line)

-- whether `else` and white space come first, and the characters after them
unfoldable pub past_else : List ℕ → Bool × List ℕ
past_else cs = elim (past_word (codes "else") cs >>= past_white) [ Some rest ↦ (true, rest) | None ↦ (false, cs) ]

-- `version` and a number: whether it is one of the two known ones
unfoldable pub version : List ℕ → Option Bool
version cs = do
  following ← past_word (codes "version") cs
  rest ← past_white following
  number ← text_at is_ascii_digit rest
  Some (bytes_eq number (codes "440") || bytes_eq number (codes "450"))

-- perhaps `else`, then a word and white space: whether there is an `else`, and the rest
unfoldable pub arm : (word : List ℕ) → List ℕ → Option (Bool × List ℕ)
arm word cs = do
  let start = past_else (after_white cs)
  following ← past_word word start.1
  rest ← past_white following
  Some (start.0, rest)

-- perhaps `else`, then a word and a name: whether there is an `else`, and the name
unfoldable pub named_arm : (word : List ℕ) → List ℕ → Option (Bool × List ℕ)
named_arm word cs = do
  found ← arm word cs
  name ← name_text found.1
  Some (found.0, name)

abbrev pub ifdef : List ℕ → Option (Bool × List ℕ)
ifdef cs = named_arm (codes "ifdef") cs

abbrev pub ifndef : List ℕ → Option (Bool × List ℕ)
ifndef cs = named_arm (codes "ifndef") cs

-- an operator, perhaps empty, and a value, with white space before each
unfoldable pub operation_at : List ℕ → Option (List ℕ × List ℕ)
operation_at cs = do
  let start = after_white cs
  value ← text_at is_value_char (after_white (past_run is_operator_char start))
  Some (encode_utf8_all (run is_operator_char start), value)

-- a name that is compared to nothing is cut: its last character is the value
unfoldable pub cut : List ℕ → Option (List ℕ × List ℕ)
cut name = if nat_lt 1 (length name) then Some (encode_utf8_all (take (length name - 1) name), encode_utf8_all (drop (length name - 1) name)) else None

-- a name, an operator and a value; the operator of a cut name is empty
unfoldable pub comparison_at : List ℕ → Option (List ℕ × List ℕ × List ℕ)
comparison_at cs = do
  name ← name_text cs
  elim (operation_at (past_run is_name_char cs)) [
    | Some found ↦ Some (name, found.0, found.1)
    | None ↦ option_map (λ parts. (parts.0, [], parts.1)) (cut (run is_name_char cs))
  ]

-- perhaps `else`, then `if` and a comparison: whether there is an `else`, and name, operator and value
unfoldable pub if_condition : List ℕ → Option (Bool × List ℕ × List ℕ × List ℕ)
if_condition cs = do
  found ← arm (codes "if") cs
  parts ← comparison_at found.1
  Some (found.0, parts.0, parts.1, parts.2)

-- a word after optional white space, then anything
unfoldable pub has_keyword : (word : List ℕ) → List ℕ → Bool
has_keyword word cs = is_some (past_word word (after_white cs))

-- the characters after a word and one or more white space characters
unfoldable pub past_directive : (word : List ℕ) → List ℕ → Option (List ℕ)
past_directive word cs = past_word word (after_white cs) >>= past_white

-- `import` and a white character
abbrev pub has_import : List ℕ → Bool
has_import cs = is_some (past_directive (codes "import") cs)

-- `define_import_path` and a path, a run of characters that are no white space
unfoldable pub import_path : List ℕ → Option (List ℕ)
import_path cs = do
  rest ← past_directive (codes "define_import_path") cs
  text_at is_not_whitespace rest

-- `define`, a name, and perhaps a value
unfoldable pub define : List ℕ → Option (List ℕ × Option (List ℕ))
define cs = do
  rest ← past_directive (codes "define") cs
  name ← name_text rest
  Some (name, text_at is_value_char (after_white (past_run is_name_char rest)))
