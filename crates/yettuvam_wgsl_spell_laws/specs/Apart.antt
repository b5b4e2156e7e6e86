-- When pieces stand apart: their texts, side by side, aren't cut otherwise.
use Rattle.std.specs.Prelude.{ℕ, ◌&&◌, ◌||◌, ◌==◌, not, nat_lt, if◌then◌else◌, Bool, true, false, List, [], ◌∷◌, ◌++◌, map}
use Rattle.std.specs.Char.{is_ascii_alphanumeric}
use Rattle.yettuvam_wgsl_pieces.specs.Layout.{gap_between}
use Rattle.yettuvam_wgsl_pieces.specs.Pieces.{Piece, text}
use Rattle.yettuvam_wgsl_pieces.specs.declared.layout.Gap.{Gap}
use Rattle.yettuvam_wgsl_pieces.specs.declared.layout.Gap.TheVariants as gap
use Rattle.yettuvam_wgsl_words.specs.Class.{Text, underscore, ascii_count, starts_name}
use Rattle.yettuvam_wgsl_words.specs.Cut.{has_prefix, begins_line_comment, opens_comment}
use Rattle.yettuvam_wgsl_words.specs.Number.{point, is_plus_or_minus, begins_number}
use Rattle.yettuvam_wgsl_words.specs.declared.token.Kind.{Kind}
use Rattle.yettuvam_wgsl_words.specs.declared.token.TheConstants.{SIGNS}
use Rattle.yettuvam_wgsl_spell_laws.specs.Meant.{meant_kind, is_closing}

-- no word contains the byte
abbrev pub ends_words : ℕ → Bool
ends_words byte = nat_lt byte ascii_count && not (is_ascii_alphanumeric byte || byte == underscore)

-- no number contains the byte
abbrev pub ends_numbers : ℕ → Bool
ends_numbers byte = ends_words byte && not (byte == point || is_plus_or_minus byte)

-- one of some signs begins with a text
unfoldable pub begins_some : Text → List (ℕ × Text × Kind) → Bool
begins_some front [] = false
begins_some front (sign ∷ signs) = has_prefix front sign.1 || begins_some front signs

-- a sign of the language begins with a text
abbrev pub begins_sign : Text → Bool
begins_sign front = begins_some front (map (λ e. (e.0, e.1.now, e.2)) SIGNS)

-- no longer sign, no number and no comment begins with a text
abbrev pub begins_no_more : Text → Bool
begins_no_more front = not (begins_sign front || (begins_number front || (begins_line_comment front || opens_comment front)))

-- a token ends before a byte
abbrev pub ends_before : Text → ℕ → Bool
ends_before token byte =
    if starts_name token then ends_words byte
    else (if begins_number token then ends_numbers byte
    else begins_no_more (token ++ byte ∷ []))

-- a token ends before the first byte of the next text
abbrev pub ends_at : (token next : Text) → Bool
ends_at token [] = true
ends_at token (byte ∷ rest) = ends_before token byte

-- something stands between
abbrev pub is_blank : Gap → Bool
is_blank gap.Nothing = false
is_blank _ = true

-- a blank stands between two pieces, or the first one ends where the second one begins; of two closing brackets
-- the lexer makes one token, which the discovery of template lists splits again
abbrev pub stand_apart : (left right : Piece) → Bool
stand_apart left right =
    is_blank (gap_between left right)
    || ((is_closing (meant_kind left) && is_closing (meant_kind right)) || ends_at (text left) (text right))

-- each piece stands apart from the next one
unfoldable pub all_stand_apart : List Piece → Bool
all_stand_apart [] = true
all_stand_apart (piece ∷ []) = true
all_stand_apart (piece ∷ next ∷ more) = stand_apart piece next && all_stand_apart (next ∷ more)
