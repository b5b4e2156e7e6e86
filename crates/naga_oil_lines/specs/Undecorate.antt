-- Decorated names as a reader knows them: the module before the item, and `override fn` before the
-- module of an overridden item.
use Rattle.std.specs.Prelude.{ℕ, zero, suc, ◌-◌, ◌||◌, Bool, ◌==◌, is_some, if◌then◌else◌, Option, Some, None, unwrap_or, List, [], ◌∷◌, ◌++◌, length, take, codes, encode_utf8}
use Rattle.std.specs.Char.{is_ascii_uppercase, is_ascii_digit}
use Rattle.std.specs.List.{prefix_len}
use Rattle.std.specs.Option.{option_or}
use Rattle.std.specs.Str.{chars, encode_utf8_all}
use Rattle.ucd_perl.specs.Perl.{is_word_char}
use Rattle.naga_oil_words.specs.Bytes.{capital_x}
use Rattle.naga_oil_lines.specs.Decorate.{decoded}
use Rattle.naga_oil_words.specs.Marks.{module_mark, override_mark}
use Rattle.naga_oil_words.specs.OptionSteps.{◌>>=◌}
use Rattle.naga_oil_lines.specs.Text.{past_word}

abbrev pub is_code_char : ℕ → Bool
is_code_char c = is_ascii_uppercase c || is_ascii_digit c

-- of the capital letters and digits at the front, the last `X`: the characters from there on
unfoldable pub from_last_x : List ℕ → Option (List ℕ)
from_last_x [] = None
from_last_x (c ∷ cs) = if is_code_char c then option_or (from_last_x cs) (if c == capital_x then Some (c ∷ cs) else None) else None

-- a mark at the front, with a code and an `X` after it: the code, and the rest
unfoldable pub mark_code : (mark : List ℕ) → List ℕ → Option (List ℕ × List ℕ)
mark_code mark cs = do
  rest ← past_word mark cs
  end ← from_last_x rest
  following ← past_word (codes "X") end
  Some (encode_utf8_all (take (length rest - length end) rest), following)

-- the characters from the last mark of a module that has a code and follows some character
unfoldable pub from_last_mark : List ℕ → Option (List ℕ)
from_last_mark [] = None
from_last_mark (c ∷ cs) = option_or (from_last_mark cs) (if is_some (mark_code module_mark cs) then Some cs else None)

-- a run of word characters that has such a mark: the text before the mark, the code, and the rest
unfoldable pub split_at_mark : List ℕ → Option (List ℕ × List ℕ × List ℕ)
split_at_mark run = do
  at ← from_last_mark run
  found ← mark_code module_mark at
  Some (encode_utf8_all (take (length run - length at) run), found.0, found.1)

-- the run with the module before it and without the mark, if the code is of a module
unfoldable pub with_module : List ℕ → Option (List ℕ)
with_module run = do
  parts ← split_at_mark run
  module_name ← decoded parts.1
  Some (module_name ++ codes "::" ++ parts.0 ++ encode_utf8_all parts.2)

abbrev pub run_shown : List ℕ → List ℕ
run_shown run = unwrap_or (with_module run) (encode_utf8_all run)

-- each longest run of word characters with its module; the first `skip` characters belong to a run
-- already read
unfoldable pub with_modules : ℕ → List ℕ → List ℕ
with_modules skip [] = []
with_modules (suc skip) (c ∷ cs) = with_modules skip cs
with_modules zero (c ∷ cs) =
    if is_word_char c then run_shown (c ∷ take (prefix_len is_word_char cs) cs) ++ with_modules (prefix_len is_word_char cs) cs
    else encode_utf8 c ++ with_modules zero cs

-- a mark of an override at the front: the module that its code gives, and the rest
unfoldable pub override_at : List ℕ → Option (List ℕ × List ℕ)
override_at cs = do
  found ← mark_code override_mark cs
  module_name ← decoded found.0
  Some (module_name, found.1)

-- each mark of an override as `override fn` and its module; the first `skip` characters belong to a
-- mark already read
unfoldable pub with_overrides : ℕ → List ℕ → List ℕ
with_overrides skip [] = []
with_overrides (suc skip) (c ∷ cs) = with_overrides skip cs
with_overrides zero (c ∷ cs) = elim (override_at (c ∷ cs)) [
  | Some found ↦ codes "override fn " ++ found.0 ++ codes "::" ++ with_overrides (length cs - length found.1) cs
  | None ↦ encode_utf8 c ++ with_overrides zero cs
]

-- a text with its decorated names as a reader knows them
abbrev pub undecoration : List ℕ → List ℕ
undecoration text = with_overrides 0 (chars (with_modules 0 (chars text)))
