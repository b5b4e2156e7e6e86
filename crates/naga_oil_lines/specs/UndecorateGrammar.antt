-- Decorated names by grammar: a mark with its code, the last mark of a run, and the mark of an
-- override.
use Rattle.std.specs.Prelude.{◌≡◌, ◌≢◌, ℕ, ◌<◌, false, true, Option, Some, List, [], ◌∷◌, ◌++◌, length, All}
use Rattle.naga_oil_words.specs.Bytes.{capital_x}
use Rattle.naga_oil_lines.specs.Decorate.{decoded}
use Rattle.naga_oil_words.specs.Marks.{module_mark, override_mark}
use Rattle.naga_oil_lines.specs.Undecorate.{is_code_char}

-- no code continues here: the text is empty or begins with neither a capital letter nor a digit
abbrev pub EndsCode : List ℕ → Type 0
EndsCode [] = Unit {0}
EndsCode (c ∷ cs) = is_code_char c ≡ false

-- the text is a code, its `X` and the rest: the longest run of capital letters and digits is cut
-- before its last `X`
pub record BeginsWithCode (text code rest : List ℕ) : Type 0 where
  pub whole : text ≡ code ++ capital_x ∷ rest
  pub tail : List ℕ
  pub after : List ℕ
  pub cut : rest ≡ tail ++ after
  pub run : All (λ c. is_code_char c ≡ true) (code ++ capital_x ∷ tail)
  pub last : All (λ c. c ≢ capital_x) tail
  pub longest : EndsCode after

-- the text is a mark, its code with the `X`, and the rest
pub record BeginsWithMark (mark text code rest : List ℕ) : Type 0 where
  pub following : List ℕ
  pub whole : text ≡ mark ++ following
  pub coded : BeginsWithCode following code rest

-- a run of word characters, split at its last mark of a module that has a code and follows some
-- character
pub record HasLastMark (run before code rest : List ℕ) : Type 0 where
  pub from : List ℕ
  pub whole : run ≡ before ++ from
  pub some : 0 < length before
  pub mark : BeginsWithMark module_mark from code rest
  pub last : (front later c r : List ℕ) → run ≡ front ++ later → length before < length front → ¬ (BeginsWithMark module_mark later c r)

-- the part read at the front of a text, and the rest
abbrev pub reading : (found rest : List ℕ) → Option (List ℕ × List ℕ)
reading found rest = Some (found, rest)

-- the part read after a text, with that text and the rest
abbrev pub reading_after : (text found rest : List ℕ) → Option (List ℕ × List ℕ × List ℕ)
reading_after text found rest = Some (text, found, rest)

-- the text begins with the mark of a function that overrides an item of the module
pub record BeginsWithOverride (text module_name rest : List ℕ) : Type 0 where
  pub code : List ℕ
  pub mark : BeginsWithMark override_mark text code rest
  pub module_is : decoded code ≡ Some module_name
