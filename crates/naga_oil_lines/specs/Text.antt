-- A text read from its front, as bytes and as characters.
use Rattle.std.specs.Prelude.{◌≡◌, ℕ, ◌<◌, ◌++◌, ◌==◌, if◌then◌else◌, Option, Some, None, List, [], ◌∷◌, length}
use Rattle.std.specs.Char.{encode_utf8}
use Rattle.std.specs.Str.{chars, IsUtf8}

-- the text is the character c, then rest
pub record BeginsWithChar (text : List ℕ) (c : ℕ) (rest : List ℕ) : Type 0 where
  pub bytes : text ≡ encode_utf8 c ++ rest
  pub spelled : chars text ≡ c ∷ chars rest
  pub utf8 : IsUtf8 rest
  pub shorter : length rest < length text

-- the text after a word at its front
unfoldable pub past_word : List ℕ → List ℕ → Option (List ℕ)
past_word [] cs = Some cs
past_word (w ∷ ws) [] = None
past_word (w ∷ ws) (c ∷ cs) = if c == w then past_word ws cs else None
