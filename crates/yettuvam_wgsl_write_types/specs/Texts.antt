-- What was written before, and what is put together of it.
use Rattle.std.specs.Prelude.{ℕ, Bool, false, List, [], ◌∷◌, ◌++◌, map, Option, Some, None, slice_get, Vec, codes, Ok, Err}
use Rattle.std.specs.declared.alloc.Global.{Global}
use Rattle.naga_oil_ir.specs.declared.span.Span.{Span}
use Rattle.yettuvam_wgsl_names.specs.Table.{Name}
use Rattle.yettuvam_wgsl_pieces.specs.Pieces.{Piece, Word, Sign, piece_of}
use Rattle.yettuvam_wgsl_pieces.specs.declared.piece.Piece.{Piece as PieceOfCode}
use Rattle.yettuvam_wgsl_pieces.specs.declared.sign.Sign.TheVariants as sign
use Rattle.yettuvam_wgsl_written.specs.Outcomes.{Outcome}

-- how each type of a list is written
abbrev pub texts_of : List (Vec PieceOfCode Global) → List (List Piece)
texts_of ts = map (λ t. map piece_of t.items) ts

abbrev pub text_by : Option (List Piece) → Span → Outcome
text_by (Some ps) span = Ok ps
text_by None span = Err span

-- how the type at a place is written
abbrev pub text_at : List (List Piece) → ℕ → Span → Outcome
text_at ts place span = text_by (slice_get ts place) span

abbrev pub set_by : Option Bool → Bool
set_by (Some b) = b
set_by None = false

-- what holds at a place; nothing after the last
abbrev pub is_set : List Bool → ℕ → Bool
is_set bs place = set_by (slice_get bs place)

-- pieces in template brackets
abbrev pub template : List Piece → List Piece
template ps = Sign sign.TemplateOpen ∷ (ps ++ Sign sign.TemplateClose ∷ [])

abbrev pub word_piece : Name → List Piece
word_piece n = Word n ∷ []
