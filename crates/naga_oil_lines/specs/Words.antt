-- Classes of ASCII bytes: those of names, and those between names.
use Rattle.std.specs.Prelude.{ℕ, Bool, true, not, ◌&&◌, ◌||◌, ◌==◌, nat_lt, List, [], ◌∷◌}
use Rattle.std.specs.Char.{is_ascii_alphabetic, is_ascii_alphanumeric}
use Rattle.naga_oil_words.specs.Bytes.{double_quote, colon, underscore, ascii_count}

-- a byte that may continue a name: a letter, a digit or `_`
abbrev pub is_word_byte : ℕ → Bool
is_word_byte b = is_ascii_alphanumeric b || (b == underscore)

-- an ASCII byte that begins no identifier
abbrev pub is_gap_byte : ℕ → Bool
is_gap_byte b = nat_lt b ascii_count && not (is_ascii_alphabetic b || (b == double_quote))

-- no identifier continues here: the text is empty or begins with an ASCII byte that is no part of
-- one
abbrev pub ends_identifier : List ℕ → Bool
ends_identifier [] = true
ends_identifier (b ∷ bs) = nat_lt b ascii_count && not (is_word_byte b || ((b == double_quote) || (b == colon)))
