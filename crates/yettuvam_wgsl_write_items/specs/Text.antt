-- What calls do to a text that is being written, and what they depend on.
use Rattle.std.specs.Prelude.{◌≡◌, List, ◌++◌, map, Option, option_map, OnOk, String, string_bytes, Result, Vec}
use Rattle.std.specs.declared.alloc.AllocError.{AllocError}
use Rattle.std.specs.declared.alloc.Global.{Global}
use Rattle.yettuvam_wgsl_names.specs.Table.{Name}
use Rattle.yettuvam_wgsl_pieces.specs.Pieces.{Piece, piece_of}
use Rattle.yettuvam_wgsl_pieces.specs.declared.piece.Piece.{Piece as PieceByCode}
use Rattle.yettuvam_wgsl_written.specs.Outcomes.{Outcome, Puts}
use Rattle.yettuvam_wgsl_written.specs.Written.{Written}
use Rattle.yettuvam_wgsl_written.specs.declared.refusal.Refusal.{Refusal}
use Rattle.yettuvam_wgsl_written.specs.declared.written.Written.{Written as WrittenByCode}
use Rattle.yettuvam_wgsl_written_names.specs.Items.{Becomes}
use Rattle.yettuvam_wgsl_write_types.specs.Types.{values_of}
use Rattle.yettuvam_wgsl_write_expressions.specs.Context.{Context, context_of}
use Rattle.yettuvam_wgsl_write_expressions.specs.declared.context.Context.{Context as ContextByCode}
use denote.Ref.{Bor}

-- ---- texts

abbrev pub TextByCode : Type 0
TextByCode = Vec PieceByCode Global

abbrev pub pieces_of : TextByCode → List Piece
pieces_of text = map piece_of text.items

-- a call appends these pieces, unless memory runs out
abbrev pub Adds : List Piece → Result (Unit {0}) AllocError → (old new : TextByCode) → Type 0
Adds ps result old new = OnOk result (pieces_of new ≡ pieces_of old ++ ps)

-- a call appends the pieces of the outcome, or refuses
abbrev pub Appends : Outcome → Result (Unit {0}) Refusal → (old new : TextByCode) → Type 0
Appends o result old new = Puts o result (pieces_of old) (pieces_of new)

-- a call makes a text of the earlier pieces, or refuses
abbrev pub Makes : (List Piece → Outcome) → Result (Unit {0}) Refusal → (old new : TextByCode) → Type 0
Makes f result old new = Becomes (f (pieces_of old)) result (pieces_of new)

-- ---- what declarations depend on

-- a module, and its global expressions as they are written
pub record Inputs : Type 0 where
  pub context : Context
  pub known : List Written

abbrev pub inputs : ContextByCode → List WrittenByCode → Inputs
inputs context known = record { context = context_of context; known = values_of known }

-- the name of an item, if it has one
abbrev pub name_of : Option (Bor Name) → Option Name
name_of name = option_map (λ n. n.now) name

-- the same, as a module holds it
abbrev pub text_of : Option (String Global) → Option Name
text_of name = option_map string_bytes name
