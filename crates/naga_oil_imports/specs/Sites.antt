-- The places of the identifiers of a text that are substituted.
use Rattle.std.specs.Prelude.{◌≡◌, ℕ, ◌+◌, ◌<◌, Bool, false, not, ◌&&◌, ◌||◌, ◌==◌, List, [], ◌∷◌, ◌++◌, length, IsTrue}
use Rattle.std.specs.List.{list_any}
use Rattle.std.specs.Str.{chars, IsUtf8}
use Rattle.naga_oil_words.specs.Bytes.{dot, colon, at_sign}
use Rattle.naga_oil_imports.specs.Declarations.{Declared, paths_of}
use Rattle.naga_oil_lines.specs.Tokens.{identifier, lexemes}
use Rattle.naga_oil_imports.specs.Substituted.{sites_from, substituted_from}

-- an identifier without `:` that is not declared: it stands for itself
abbrev pub is_own : Declared → List ℕ → Bool
is_own declared name = not (list_any (λ b. b == colon) name) && (length (paths_of declared name) == 0)

-- whether an identifier after this gap, which is of no identifier, stays as it is: by the gap's
-- last byte, or by `kept` if the gap is empty
abbrev pub gap_keeps : (kept : Bool) → List ℕ → Bool
gap_keeps kept [] = kept
gap_keeps kept (b ∷ bs) = gap_keeps ((b == dot) || (b == at_sign)) bs

-- the text before a rest is written as it is, and has no identifier that is substituted; `kept` and
-- `next` say whether an identifier at the start of the text, and one at the start of the rest, is
-- kept
pub record Passes (kept : Bool) (text : List ℕ) (next : Bool) (rest : List ℕ) : Type 0 where
  pub front : List ℕ
  pub whole : text ≡ front ++ rest
  pub utf8 : IsUtf8 rest
  pub written : (declared : Declared) (at : ℕ) → substituted_from declared kept (lexemes 0 at (chars text)) ≡ front ++ substituted_from declared next (lexemes 0 (at + length front) (chars rest))
  pub sites : (offset at : ℕ) → sites_from offset kept (lexemes 0 at (chars text)) ≡ sites_from offset next (lexemes 0 (at + length front) (chars rest))

-- no identifier of the text is substituted
abbrev pub HasNoSite : List ℕ → Type 0
HasNoSite text = (next : Bool) × Passes false text next []

-- the first identifier of the text that is substituted, the text from it on, and the text after it;
-- a word has no `:`
pub record FindsSite (text name : List ℕ) (is_word : Bool) (from following : List ℕ) : Type 0 where
  pub before : Passes false text false from
  pub cut : from ≡ name ++ following
  pub word : IsTrue is_word → list_any (λ b. b == colon) name ≡ false
  pub shorter : length following < length from
  pub utf8 : IsUtf8 following
  pub token : (at : ℕ) → lexemes 0 at (chars from) ≡ identifier name at ∷ lexemes 0 (at + length name) (chars following)
