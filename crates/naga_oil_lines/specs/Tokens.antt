-- The tokens of a text, by its characters: each is as long as possible.
use Rattle.std.specs.Prelude.{ℕ, zero, suc, ◌+◌, Option, Some, None, Bool, true, false, ◌||◌, ◌&&◌, ◌==◌, not, if◌then◌else◌, List, [], ◌∷◌, take, filter}
use Rattle.std.specs.List.{prefix_len}
use Rattle.std.specs.Char.{is_whitespace, len_utf8}
use Rattle.std.specs.Str.{encode_utf8_all}
use Rattle.unicode_ident.specs.Ident.{is_xid_start, is_xid_continue}
use Rattle.naga_oil_words.specs.Bytes.{double_quote, colon}

-- a token: its text, or its one character, and the place of its first byte
pub data Lexeme : Type 0 where
  identifier : List ℕ → ℕ → Lexeme
  other : ℕ → ℕ → Lexeme
  whitespace : List ℕ → ℕ → Lexeme

-- the place of a token's first byte
abbrev pub place_of : Lexeme → ℕ
place_of (identifier text at) = at
place_of (other c at) = at
place_of (whitespace text at) = at

-- the text of an identifier; other tokens have none
abbrev pub identifier_text : Lexeme → Option (List ℕ)
identifier_text (identifier text at) = Some text
identifier_text (other c at) = None
identifier_text (whitespace text at) = None

abbrev pub starts_identifier : ℕ → Bool
starts_identifier c = is_xid_start c || (c == double_quote)

-- the number of characters that continue an identifier, inside a quoted part or not: XID_Continue,
-- `::` and quoted parts
unfoldable pub tail_len : Bool → List ℕ → ℕ
tail_len quoted [] = 0
tail_len true (c ∷ cs) = suc (tail_len (not (c == double_quote)) cs)
tail_len false (c ∷ []) = if c == double_quote then 1 else (if is_xid_continue c then 1 else 0)
tail_len false (c ∷ d ∷ cs) =
    if c == double_quote then suc (tail_len true (d ∷ cs))
    else (if is_xid_continue c then suc (tail_len false (d ∷ cs))
    else (if (c == colon) && (d == colon) then suc (suc (tail_len false cs)) else 0))

-- the number of characters after the first one in its token
unfoldable pub more_in_token : ℕ → List ℕ → ℕ
more_in_token c cs = if starts_identifier c then tail_len (c == double_quote) cs else (if is_whitespace c then prefix_len is_whitespace cs else 0)

-- the token with this text, which begins with the character c
abbrev pub lexeme_at : ℕ → ℕ → List ℕ → Lexeme
lexeme_at at c text = if starts_identifier c then identifier text at else (if is_whitespace c then whitespace text at else other c at)

-- the tokens of characters, given the place of their first byte; the first `skip` characters belong
-- to a token already read
unfoldable pub lexemes : ℕ → ℕ → List ℕ → List Lexeme
lexemes skip at [] = []
lexemes (suc skip) at (c ∷ cs) = lexemes skip (at + len_utf8 c) cs
lexemes zero at (c ∷ cs) = lexeme_at at c (encode_utf8_all (c ∷ take (more_in_token c cs) cs)) ∷ lexemes (more_in_token c cs) (at + len_utf8 c) cs

abbrev pub is_whitespace_lexeme : Lexeme → Bool
is_whitespace_lexeme (identifier text at) = false
is_whitespace_lexeme (other c at) = false
is_whitespace_lexeme (whitespace text at) = true

-- the tokens, with or without white space
abbrev pub emit : Bool → List Lexeme → List Lexeme
emit emit_whitespace ts = if emit_whitespace then ts else filter (λ t. not (is_whitespace_lexeme t)) ts
