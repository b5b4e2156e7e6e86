-- The pieces that the writer makes.
use Rattle.std.specs.Prelude.{◌≡◌, ◌<◌, ◌^◌, ◌&&◌, ◌||◌, not, if◌then◌else◌, Bool, true, false, [], ◌∷◌, is_some}
use Rattle.yettuvam_wgsl_pieces.specs.Pieces.{Piece, Word, Number, Literal, Letters, Sign}
use Rattle.yettuvam_wgsl_pieces.specs.declared.sign.Sign.TheVariants as sign
use Rattle.yettuvam_wgsl_words.specs.Class.{Text}
use Rattle.yettuvam_wgsl_words.specs.Cut.{find, group}
use Rattle.yettuvam_wgsl_words.specs.declared.token.Kind.{Kind}
use Rattle.yettuvam_wgsl_words.specs.declared.token.Kind.TheVariants as k
use Rattle.yettuvam_wgsl_written_names.specs.Spelled.{is_name}
use Rattle.yettuvam_wgsl_spell_laws.specs.Apart.{stand_apart}
use Rattle.yettuvam_wgsl_spell_laws.specs.Meant.{meant_kind}

-- a keyword, or a word that the language reserves
abbrev pub is_word : Text → Bool
is_word [] = false
is_word (first ∷ rest) = is_some (find (group first) (first ∷ rest))

-- names have the form of names and are no words of the language, numbers have 64 bits, and some letters are named
abbrev pub IsWritten : Piece → Type 0
IsWritten (Word word) = (is_name word ≡ true) × (is_word word ≡ false)
IsWritten (Number value) = value < 2 ^ 64
IsWritten (Literal kind bits) = (kind < 2 ^ 64) × (bits < 2 ^ 64)
IsWritten (Letters size pattern) = 0 < size
IsWritten (Sign sign) = Unit {0}

-- a sign or a keyword
abbrev pub is_sign : Piece → Bool
is_sign (Sign sign) = true
is_sign _ = false

-- the point before a member
abbrev pub is_dot : Piece → Bool
is_dot (Sign sign.Dot) = true
is_dot _ = false

-- the kind of numbers
abbrev pub is_number : Kind → Bool
is_number k.Number = true
is_number _ = false

-- two signs that stand apart, or two pieces of which one is no sign, but no number beside a point
abbrev pub may_be_neighbours : (left right : Piece) → Bool
may_be_neighbours left right =
    if is_sign left && is_sign right then stand_apart left right
    else not ((is_dot left && is_number (meant_kind right)) || (is_number (meant_kind left) && is_dot right))
