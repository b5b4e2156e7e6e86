-- The statements of a text.
use Rattle.std.specs.Prelude.{List, [], ◌∷◌, ◌++◌, map}
use Rattle.yettuvam_wgsl_pieces.specs.Pieces.{Piece, Sign, piece_of}
use Rattle.yettuvam_wgsl_pieces.specs.declared.sign.Sign.TheVariants as sign
use Rattle.yettuvam_wgsl_write_blocks.specs.declared.parts.Part.{Part as PartByCode}
use Rattle.yettuvam_wgsl_write_blocks.specs.declared.parts.PartKind.{PartKind}
use Rattle.yettuvam_wgsl_write_blocks.specs.declared.parts.PartKind.TheVariants as kind

-- a statement of the text: what it is to the statements around it, its pieces, and parts of these that other statements may have
-- in their texts
pub record Part : Type 0 where
  pub kind : PartKind
  pub text : List Piece
  pub head : List Piece
  pub inside : List Piece

abbrev pub part_of : PartByCode → Part
part_of p = record {
  kind = p.kind;
  text = map piece_of p.text.items;
  head = map piece_of p.head.items;
  inside = map piece_of p.inside.items;
}

abbrev pub parts_of : List PartByCode → List Part
parts_of ps = map part_of ps

-- pieces and `;`
abbrev pub stopped : List Piece → List Piece
stopped ps = ps ++ Sign sign.Semicolon ∷ []

-- a statement without blocks
abbrev pub simple_part : PartKind → List Piece → Part
simple_part k ps = record { kind = k; text = stopped ps; head = ps; inside = [] }

-- a statement of which the statements around it know the text alone
abbrev pub other_part : List Piece → Part
other_part ps = record { kind = kind.Other; text = ps; head = []; inside = [] }

-- the texts of statements, in their order
abbrev pub texts : List Part → List Piece
texts [] = []
texts (p ∷ ps) = p.text ++ texts ps

-- pieces in braces
abbrev pub braced : List Piece → List Piece
braced ps = Sign sign.LeftBrace ∷ (ps ++ Sign sign.RightBrace ∷ [])

-- statements in braces
abbrev pub block_text : List Part → List Piece
block_text ps = braced (texts ps)
