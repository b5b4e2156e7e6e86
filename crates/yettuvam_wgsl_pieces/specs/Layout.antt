-- What stands between two pieces, and the text of a list of pieces.
use Rattle.std.specs.Prelude.{ℕ, zero, suc, ◌+◌, ◌-◌, ◌==◌, ◌&&◌, ◌||◌, nat_lt, if◌then◌else◌, Bool, true, false, List, [], ◌∷◌, ◌++◌, codes}
use Rattle.yettuvam_wgsl_pieces.specs.Pieces.{Piece, Word, Sign, text}
use Rattle.yettuvam_wgsl_pieces.specs.declared.sign.Sign.TheVariants as sign
use Rattle.yettuvam_wgsl_pieces.specs.declared.layout.Gap.{Gap}
use Rattle.yettuvam_wgsl_pieces.specs.declared.layout.Gap.TheVariants as gap

-- whether a line may end after a piece
abbrev pub ends_line : Piece → Bool
ends_line (Sign sign.LeftBrace) = true
ends_line (Sign sign.RightBrace) = true
ends_line (Sign sign.Semicolon) = true
ends_line (Sign sign.MemberComma) = true
ends_line _ = false

-- whether no blank stands after a piece
abbrev pub is_tight_after : Piece → Bool
is_tight_after (Sign sign.At) = true
is_tight_after (Sign sign.LeftParen) = true
is_tight_after (Sign sign.LeftBracket) = true
is_tight_after (Sign sign.Dot) = true
is_tight_after (Sign sign.Not) = true
is_tight_after (Sign sign.Complement) = true
is_tight_after (Sign sign.Negate) = true
is_tight_after (Sign sign.AddressOf) = true
is_tight_after (Sign sign.Indirection) = true
is_tight_after (Sign sign.TemplateOpen) = true
is_tight_after _ = false

-- whether no blank stands before a piece
abbrev pub is_tight_before : Piece → Bool
is_tight_before (Sign sign.Comma) = true
is_tight_before (Sign sign.MemberComma) = true
is_tight_before (Sign sign.Semicolon) = true
is_tight_before (Sign sign.HeadSemicolon) = true
is_tight_before (Sign sign.Colon) = true
is_tight_before (Sign sign.CaseColon) = true
is_tight_before (Sign sign.RightParen) = true
is_tight_before (Sign sign.LeftBracket) = true
is_tight_before (Sign sign.RightBracket) = true
is_tight_before (Sign sign.Dot) = true
is_tight_before (Sign sign.TemplateOpen) = true
is_tight_before (Sign sign.TemplateClose) = true
is_tight_before _ = false

-- whether a `(` after the piece begins arguments
abbrev pub is_called : Piece → Bool
is_called (Word word) = true
is_called (Sign sign.TemplateClose) = true
is_called (Sign sign.DiagnosticWord) = true
is_called _ = false

abbrev pub is_left_paren : Piece → Bool
is_left_paren (Sign sign.LeftParen) = true
is_left_paren _ = false

abbrev pub is_fn : Piece → Bool
is_fn (Sign sign.FnWord) = true
is_fn _ = false

-- whether a piece may be the last one of an attribute
abbrev pub ends_attribute : Piece → Bool
ends_attribute (Word word) = true
ends_attribute (Sign sign.RightParen) = true
ends_attribute _ = false

abbrev pub is_negate : Piece → Bool
is_negate (Sign sign.Negate) = true
is_negate _ = false

abbrev pub is_left_brace : Piece → Bool
is_left_brace (Sign sign.LeftBrace) = true
is_left_brace _ = false

abbrev pub is_right_brace : Piece → Bool
is_right_brace (Sign sign.RightBrace) = true
is_right_brace _ = false

abbrev pub is_else : Piece → Bool
is_else (Sign sign.ElseWord) = true
is_else _ = false

-- after a piece that may end a line
abbrev pub line_gap : Piece → Piece → Gap
line_gap left right =
    if is_left_brace left && is_right_brace right then gap.Nothing
    else (if is_right_brace left && is_else right then gap.Blank else gap.Line)

-- after any other piece
abbrev pub word_gap : Piece → Piece → Gap
word_gap left right =
    if is_negate left && is_negate right then gap.Blank
    else (if is_tight_after left || is_tight_before right then gap.Nothing
    else (if is_called left && is_left_paren right then gap.Nothing else gap.Blank))

-- what stands between two pieces
abbrev pub gap_between : Piece → Piece → Gap
gap_between left right =
    if ends_line left then line_gap left right
    else (if ends_attribute left && is_fn right then gap.Row else word_gap left right)

-- the most open braces that lines are indented for
abbrev pub most_depth : ℕ
most_depth = 256

-- the number of open braces after a piece
abbrev pub depth_after : ℕ → Piece → ℕ
depth_after depth piece =
    if is_left_brace piece then (if nat_lt depth most_depth then depth + 1 else depth)
    else (if is_right_brace piece then depth - 1 else depth)

-- the spaces before a line
abbrev pub indent : ℕ → List ℕ
indent zero = []
indent (suc depth) = codes "    " ++ indent depth

-- the end of a line, and the spaces before the next piece; a paragraph ends where no brace is open
abbrev pub line_text : ℕ → Piece → List ℕ
line_text depth next =
    if depth == 0 then codes "\n\n"
    else (if is_right_brace next then codes "\n" ++ indent (depth - 1) else codes "\n" ++ indent depth)

abbrev pub gap_text : ℕ → Gap → Piece → List ℕ
gap_text depth gap.Nothing next = []
gap_text depth gap.Blank next = codes " "
gap_text depth gap.Line next = line_text depth next
gap_text depth gap.Row next = codes "\n"

-- what stands after a piece, before the next ones
abbrev pub after : ℕ → Piece → List Piece → List ℕ
after depth piece [] = codes "\n"
after depth piece (next ∷ more) = gap_text depth (gap_between piece next) next

-- the text of pieces, where some braces are open
unfoldable pub spell_from : ℕ → List Piece → List ℕ
spell_from depth [] = []
spell_from depth (piece ∷ more) =
    text piece ++ (after (depth_after depth piece) piece more ++ spell_from (depth_after depth piece) more)

-- the text of pieces
abbrev pub spell : List Piece → List ℕ
spell pieces = spell_from 0 pieces
