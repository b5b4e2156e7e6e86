-- Worked rows: texts that are read as they were meant, and texts that aren't.
use Rattle.std.specs.Prelude.{◌≡◌, refl, Bool, true, false, List, [], ◌∷◌, map, codes, Result, Ok, Err}
use Rattle.std.specs.Fmt.{digits}
use Rattle.yettuvam_wgsl_pieces.specs.Layout.{spell, spell_from}
use Rattle.yettuvam_wgsl_pieces.specs.Pieces.{Piece, Word, Number, Sign}
use Rattle.yettuvam_wgsl_pieces.specs.declared.sign.Sign.TheVariants as sign
use Rattle.yettuvam_wgsl_templates.specs.Finder.{with_templates, run, step, act, less, greater, shift_right, close, opening, closing, logic, ending}
use Rattle.yettuvam_wgsl_words.specs.Class.{Text}
use Rattle.yettuvam_wgsl_words.specs.Cut.{cut, group, sign as sign_of}
use Rattle.yettuvam_wgsl_words.specs.Scan.{Token, and_then, tokens, scan, scan_from}
use Rattle.yettuvam_wgsl_words.specs.declared.refusal.Fault.{Fault}
use Rattle.yettuvam_wgsl_words.specs.declared.refusal.Reason.TheVariants as reason
use Rattle.yettuvam_wgsl_words.specs.declared.token.Kind.{Kind}
use Rattle.yettuvam_wgsl_words.specs.declared.token.Kind.TheVariants as k
use Rattle.yettuvam_wgsl_spell_laws.specs.Apart.{begins_some, all_stand_apart, ends_before}
use Rattle.yettuvam_wgsl_spell_laws.specs.Brackets.{are_well_bracketed, bracketed_from}
use Rattle.yettuvam_wgsl_spell_laws.specs.MeantRows.{declaration}

-- the kinds and texts of tokens; nothing of a fault
abbrev pub seen : Result (List Token) Fault → List (Kind × Text)
seen (Ok tokens) = map (λ t. (t.kind, t.text)) tokens
seen (Err fault) = []

-- how the text of pieces is read
abbrev pub read : List Piece → List (Kind × Text)
read pieces = seen (and_then (tokens (spell pieces)) with_templates)

-- ---- pieces that stand apart

declaration_apart : all_stand_apart declaration ≡ true
unfolding all_stand_apart begins_some
declaration_apart = refl

-- 1 . x, of which the lexer takes the point to the number, which a letter then spoils
abbrev pub point_after_number : List Piece
point_after_number = Number 1 ∷ Sign sign.Dot ∷ Word (codes "x") ∷ []

not_apart : all_stand_apart point_after_number ≡ false
unfolding all_stand_apart begins_some digits
not_apart = refl

point_is_taken : tokens (spell point_after_number) ≡ Err (record { reason = reason.BadNumber; span = record { start = 0; end = 3 } })
unfolding spell_from tokens scan scan_from cut digits
point_is_taken = refl

-- & & x, of which the lexer makes one `&&`
abbrev pub two_addresses : List Piece
two_addresses = Sign sign.AddressOf ∷ Sign sign.AddressOf ∷ Word (codes "x") ∷ []

addresses_not_apart : all_stand_apart two_addresses ≡ false
unfolding all_stand_apart begins_some
addresses_not_apart = refl

addresses_are_joined : read two_addresses ≡ (k.AndAnd, codes "&&") ∷ (k.Name, codes "x") ∷ (k.End, []) ∷ []
unfolding spell_from tokens scan scan_from cut group sign_of with_templates run step act logic
addresses_are_joined = refl

-- which bytes a token ends before: a space, a point, a letter, `(`, `=`, `*`
abbrev pub ends : Text → List Bool
ends token = map (λ byte. ends_before token byte) (32 ∷ 46 ∷ 120 ∷ 40 ∷ 61 ∷ 42 ∷ [])

ends_rows : map ends (codes "ab" ∷ codes "12" ∷ codes "<" ∷ codes "/" ∷ codes ">>=" ∷ [])
    ≡ (true ∷ true ∷ false ∷ true ∷ true ∷ true ∷ [])
    ∷ (true ∷ false ∷ false ∷ true ∷ true ∷ true ∷ [])
    ∷ (true ∷ true ∷ true ∷ true ∷ false ∷ true ∷ [])
    ∷ (true ∷ true ∷ true ∷ true ∷ false ∷ false ∷ [])
    ∷ (true ∷ true ∷ true ∷ true ∷ true ∷ true ∷ [])
    ∷ []
unfolding begins_some
ends_rows = refl

-- ---- pieces that are well bracketed

declaration_bracketed : are_well_bracketed declaration ≡ true
unfolding bracketed_from
declaration_bracketed = refl

declaration_read : map (λ t. t.0) (read declaration)
    ≡ k.Let ∷ k.Name ∷ k.Equal ∷ k.Name ∷ k.TemplateOpen ∷ k.Name ∷ k.TemplateOpen ∷ k.Name ∷ k.TemplateClose ∷ k.TemplateClose ∷ k.OpenParenthesis ∷ k.Name ∷ k.Comma ∷ k.Minus ∷ k.Name
    ∷ k.CloseParenthesis ∷ k.Semicolon ∷ k.End ∷ []
unfolding spell_from tokens scan scan_from cut group sign_of with_templates run step act less greater shift_right close opening closing ending
declaration_read = refl

-- f(a < b, c > d), which is read with the list `<b, c>`
abbrev pub two_comparisons : List Piece
two_comparisons =
    Word (codes "f") ∷ Sign sign.LeftParen ∷ Word (codes "a") ∷ Sign sign.Less ∷ Word (codes "b") ∷ Sign sign.Comma ∷ Word (codes "c") ∷ Sign sign.Greater ∷ Word (codes "d")
    ∷ Sign sign.RightParen ∷ []

comparisons_not_bracketed : are_well_bracketed two_comparisons ≡ false
unfolding bracketed_from
comparisons_not_bracketed = refl

comparisons_are_a_list : map (λ t. t.0) (read two_comparisons)
    ≡ k.Name ∷ k.OpenParenthesis ∷ k.Name ∷ k.TemplateOpen ∷ k.Name ∷ k.Comma ∷ k.Name ∷ k.TemplateClose ∷ k.Name ∷ k.CloseParenthesis ∷ k.End ∷ []
unfolding spell_from tokens scan scan_from cut group sign_of with_templates run step act less greater close opening closing
comparisons_are_a_list = refl

-- f((a < b), c > d)
abbrev pub comparison_in_parentheses : List Piece
comparison_in_parentheses =
    Word (codes "f") ∷ Sign sign.LeftParen ∷ Sign sign.LeftParen ∷ Word (codes "a") ∷ Sign sign.Less ∷ Word (codes "b") ∷ Sign sign.RightParen ∷ Sign sign.Comma ∷ Word (codes "c")
    ∷ Sign sign.Greater ∷ Word (codes "d") ∷ Sign sign.RightParen ∷ []

parentheses_bracketed : are_well_bracketed comparison_in_parentheses ≡ true
unfolding bracketed_from
parentheses_bracketed = refl

parentheses_read : map (λ t. t.0) (read comparison_in_parentheses)
    ≡ k.Name ∷ k.OpenParenthesis ∷ k.OpenParenthesis ∷ k.Name ∷ k.Less ∷ k.Name ∷ k.CloseParenthesis ∷ k.Comma ∷ k.Name ∷ k.Greater ∷ k.Name ∷ k.CloseParenthesis ∷ k.End ∷ []
unfolding spell_from tokens scan scan_from cut group sign_of with_templates run step act less greater close opening closing
parentheses_read = refl
