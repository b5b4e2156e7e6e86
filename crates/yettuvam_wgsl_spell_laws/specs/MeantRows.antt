-- Worked rows: the tokens of `let x = array<vec4<f32>>(a, -b);`.
use Rattle.std.specs.Prelude.{◌≡◌, refl, ℕ, List, [], ◌∷◌, map, codes}
use Rattle.yettuvam_wgsl_pieces.specs.Layout.{spell, spell_from}
use Rattle.yettuvam_wgsl_pieces.specs.Pieces.{Piece, Word, Sign}
use Rattle.yettuvam_wgsl_pieces.specs.declared.sign.Sign.TheVariants as sign
use Rattle.yettuvam_wgsl_words.specs.Class.{Text}
use Rattle.yettuvam_wgsl_words.specs.Scan.{Token}
use Rattle.yettuvam_wgsl_words.specs.declared.token.Kind.{Kind}
use Rattle.yettuvam_wgsl_words.specs.declared.token.Kind.TheVariants as k
use Rattle.yettuvam_wgsl_spell_laws.specs.Meant.{meant_tokens, meant_from, cut_tokens}

-- let x = array<vec4<f32>>(a, -b);
abbrev pub declaration : List Piece
declaration =
    Sign sign.LetWord ∷ Word (codes "x") ∷ Sign sign.Equal ∷ Word (codes "array") ∷ Sign sign.TemplateOpen ∷ Word (codes "vec4") ∷ Sign sign.TemplateOpen ∷ Word (codes "f32")
    ∷ Sign sign.TemplateClose ∷ Sign sign.TemplateClose ∷ Sign sign.LeftParen ∷ Word (codes "a") ∷ Sign sign.Comma ∷ Sign sign.Negate ∷ Word (codes "b") ∷ Sign sign.RightParen
    ∷ Sign sign.Semicolon ∷ []

-- a kind, a place and a text
abbrev pub Seen : Type 0
Seen = Kind × ℕ × Text

abbrev pub seen : List Token → List Seen
seen tokens = map (λ t. (t.kind, t.span.start, t.text)) tokens

spelled_row : spell declaration ≡ codes "let x = array<vec4<f32>>(a, -b);\n"
unfolding spell_from
spelled_row = refl

meant_row : seen (meant_tokens declaration)
    ≡ (k.Let, 0, codes "let") ∷ (k.Name, 4, codes "x") ∷ (k.Equal, 6, codes "=") ∷ (k.Name, 8, codes "array") ∷ (k.TemplateOpen, 13, codes "<") ∷ (k.Name, 14, codes "vec4")
    ∷ (k.TemplateOpen, 18, codes "<") ∷ (k.Name, 19, codes "f32") ∷ (k.TemplateClose, 22, codes ">") ∷ (k.TemplateClose, 23, codes ">") ∷ (k.OpenParenthesis, 24, codes "(")
    ∷ (k.Name, 25, codes "a") ∷ (k.Comma, 26, codes ",") ∷ (k.Minus, 28, codes "-") ∷ (k.Name, 29, codes "b") ∷ (k.CloseParenthesis, 30, codes ")") ∷ (k.Semicolon, 31, codes ";")
    ∷ (k.End, 33, []) ∷ []
unfolding meant_from
meant_row = refl

-- a kind and the places of a token
abbrev pub places : List Token → List (Kind × ℕ × ℕ)
places tokens = map (λ t. (t.kind, t.span.start, t.span.end)) tokens

cut_row : places (cut_tokens (meant_tokens declaration))
    ≡ (k.Let, 0, 3) ∷ (k.Name, 4, 5) ∷ (k.Equal, 6, 7) ∷ (k.Name, 8, 13) ∷ (k.Less, 13, 14) ∷ (k.Name, 14, 18) ∷ (k.Less, 18, 19) ∷ (k.Name, 19, 22) ∷ (k.ShiftRight, 22, 24)
    ∷ (k.OpenParenthesis, 24, 25) ∷ (k.Name, 25, 26) ∷ (k.Comma, 26, 27) ∷ (k.Minus, 28, 29) ∷ (k.Name, 29, 30) ∷ (k.CloseParenthesis, 30, 31) ∷ (k.Semicolon, 31, 32) ∷ (k.End, 33, 33) ∷ []
unfolding meant_from cut_tokens
cut_row = refl
