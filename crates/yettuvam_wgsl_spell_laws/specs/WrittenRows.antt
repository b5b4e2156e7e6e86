-- Worked rows: names that the writer may use, and texts of one token.
use Rattle.std.proofs.Common.{arith}
use Rattle.std.specs.Prelude.{◌≡◌, refl, ℕ, List, Bool, true, false, [], ◌∷◌, map, codes}
use Rattle.std.specs.Fmt.{digits}
use Rattle.yettuvam_wgsl_pieces.specs.Numbers.{literal_text}
use Rattle.yettuvam_wgsl_pieces.specs.Pieces.{Piece, Word, Number, Literal, Letters, Sign, text}
use Rattle.yettuvam_wgsl_pieces.specs.declared.sign.Sign.TheVariants as sign
use Rattle.yettuvam_wgsl_words.specs.Class.{Text}
use Rattle.yettuvam_wgsl_words.specs.Cut.{cut, group, sign as sign_of}
use Rattle.yettuvam_wgsl_words.specs.declared.cut.Piece.{Piece as PieceOfText}
use Rattle.yettuvam_wgsl_words.specs.declared.cut.Piece.TheVariants.{Token, Bad, Blank}
use Rattle.yettuvam_wgsl_words.specs.declared.refusal.Reason.TheVariants as reason
use Rattle.yettuvam_wgsl_words.specs.declared.token.Kind.TheVariants as k
use Rattle.yettuvam_wgsl_written_names.specs.Spelled.{is_name}
use Rattle.yettuvam_wgsl_spell_laws.specs.Written.{IsWritten, is_word, may_be_neighbours}
use Rattle.yettuvam_wgsl_spell_laws.specs.Apart.{begins_some}

-- whether a word has the form of a name, and whether it is a word of the language
abbrev pub tests : Text → Bool × Bool
tests word = (is_name word, is_word word)

word_rows : map tests (codes "height" ∷ codes "let" ∷ codes "async" ∷ codes "f32" ∷ codes "_" ∷ codes "__a" ∷ codes "2d" ∷ codes "a-b" ∷ [])
    ≡ (true, false) ∷ (true, true) ∷ (true, true) ∷ (true, false) ∷ (false, false) ∷ (false, false) ∷ (false, false) ∷ (false, false) ∷ []
unfolding group
word_rows = refl

-- how the text of a piece is cut
abbrev pub cut_piece : Piece → PieceOfText × Text
cut_piece piece = cut (text piece)

good_rows : map cut_piece (Word (codes "height") ∷ Number 40 ∷ Literal 19 255 ∷ Literal 0 1 ∷ Letters 3 36 ∷ Sign sign.Negate ∷ Sign sign.TemplateOpen ∷ Sign sign.VarWord ∷ [])
    ≡ (Token k.Name, []) ∷ (Token k.Number, []) ∷ (Token k.Number, []) ∷ (Token k.True, []) ∷ (Token k.Name, []) ∷ (Token k.Minus, []) ∷ (Token k.Less, []) ∷ (Token k.Var, []) ∷ []
unfolding cut group sign_of literal_text digits
good_rows = refl

-- a keyword isn't a name, a reserved word is no token, a name doesn't go on after a blank, and no letters are no token
not_good_rows : map cut_piece (Word (codes "let") ∷ Word (codes "async") ∷ Word (codes "a b") ∷ Letters 0 0 ∷ [])
    ≡ (Token k.Let, []) ∷ (Bad reason.ReservedWord, []) ∷ (Token k.Name, codes " b") ∷ (Blank, []) ∷ []
unfolding cut group
not_good_rows = refl

-- pairs that may be neighbours: `1.` and `.1` may not, nor may `&&` of two prefixes; `a.`, `(-`, `- -` and `>>` of two brackets may
abbrev pub neighbour_tests : List (Piece × Piece) → List Bool
neighbour_tests pairs = map (λ p. may_be_neighbours p.0 p.1) pairs

neighbour_rows : neighbour_tests (
    (Number 1, Sign sign.Dot) ∷ (Sign sign.Dot, Number 1) ∷ (Sign sign.AddressOf, Sign sign.AddressOf)
    ∷ (Word (codes "a"), Sign sign.Dot) ∷ (Sign sign.LeftParen, Sign sign.Negate) ∷ (Sign sign.Negate, Sign sign.Negate) ∷ (Sign sign.TemplateClose, Sign sign.TemplateClose) ∷ [])
    ≡ false ∷ false ∷ false ∷ true ∷ true ∷ true ∷ true ∷ []
unfolding begins_some
neighbour_rows = refl

-- ---- pieces that the writer makes

name_is_written : IsWritten (Word (codes "height"))
unfolding group
name_is_written = (refl, refl)

keyword_for_a_name_is_refused : IsWritten (Word (codes "let")) → ⊥
unfolding group
keyword_for_a_name_is_refused h = let e : true ≡ false = h.1 in absurd cc

digit_before_a_name_is_refused : IsWritten (Word (codes "2d")) → ⊥
unfolding group
digit_before_a_name_is_refused h = let e : false ≡ true = h.0 in absurd cc

letters_are_written : IsWritten (Letters 3 36)
letters_are_written = omega arith

no_letters_are_refused : (pattern : ℕ) → IsWritten (Letters 0 pattern) → ⊥
no_letters_are_refused pattern l = absurd (omega (arith, l))
