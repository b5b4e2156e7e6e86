-- A text read from its front: the name that was read, and the rest.
use Rattle.std.specs.Prelude.{◌≡◌, ℕ, ◌<◌, ◌==◌, ◌++◌, ◌∷◌, List, drop, take, Some, encode_utf8_all}
use Rattle.std.specs.Str.{chars, IsUtf8, NoCharPasses}
use Rattle.std.specs.List.{prefix_len}
use Rattle.naga_oil_words.specs.Bytes.{hash}
use Rattle.naga_oil_conditions.specs.LineKinds.{is_name_char}
use Rattle.naga_oil_conditions.specs.Replaced.{HashName, hash_name}

-- the rest is the text after `count` characters
pub record IsAfter (count : ℕ) (text rest : List ℕ) : Type 0 where
  pub left : chars rest ≡ drop count (chars text)
  pub suffix : (front : List ℕ) × (text ≡ front ++ rest)
  pub utf8 : IsUtf8 rest

-- the text begins with the name, as long as possible, and the rest follows
pub record SplitsName (text name rest : List ℕ) : Type 0 where
  pub some : 0 < prefix_len is_name_char (chars text)
  pub spelled : name ≡ encode_utf8_all (take (prefix_len is_name_char (chars text)) (chars text))
  pub following : IsAfter (prefix_len is_name_char (chars text)) text rest

-- after a `#` the text has the name, and the rest follows
pub record SplitsHashName (text name rest : List ℕ) : Type 0 where
  pub found : HashName
  pub is : hash_name (chars text) ≡ Some found
  pub spelled : name ≡ encode_utf8_all found.name
  pub following : IsAfter found.taken text rest

-- the text is a front without `#`, then a `#`, then the rest
pub record SplitsAtHash (text front rest : List ℕ) : Type 0 where
  pub whole : text ≡ front ++ hash ∷ rest
  pub plain : NoCharPasses (λ c. c == hash) front
  pub front_utf8 : IsUtf8 front
  pub rest_utf8 : IsUtf8 rest
