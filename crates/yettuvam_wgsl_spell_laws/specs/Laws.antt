-- What holds of pieces that are spelled.
use Rattle.std.specs.Prelude.{◌≡◌, ◌<◌, ◌^◌, true, List, length, All, Ok}
use Rattle.yettuvam_wgsl_pieces.specs.Layout.{spell}
use Rattle.yettuvam_wgsl_pieces.specs.Pieces.{Piece}
use Rattle.yettuvam_wgsl_templates.specs.Finder.{with_templates}
use Rattle.yettuvam_wgsl_words.specs.Scan.{and_then, tokens}
use Rattle.yettuvam_wgsl_spell_laws.specs.Apart.{stand_apart, all_stand_apart}
use Rattle.yettuvam_wgsl_spell_laws.specs.Brackets.{are_well_bracketed}
use Rattle.yettuvam_wgsl_spell_laws.specs.Meant.{IsGood, meant_tokens, cut_tokens}
use Rattle.yettuvam_wgsl_spell_laws.specs.Written.{IsWritten, may_be_neighbours}

-- names, numbers, letters and signs as the writer makes them are one token each
abbrev pub GoodLaw : Type 0
GoodLaw = (piece : Piece) → IsWritten piece → IsGood piece

-- of pieces that the writer makes, only two signs, and a number and a point, may not stand apart
abbrev pub NeighboursLaw : Type 0
NeighboursLaw = (left right : Piece) → IsWritten left → IsWritten right → may_be_neighbours left right ≡ true → stand_apart left right ≡ true

-- the lexer cuts a text of pieces that stand apart into the tokens of the pieces, brackets not yet marked
abbrev pub CutLaw : Type 0
CutLaw = (pieces : List Piece) → length (spell pieces) < 2 ^ 32 → All IsGood pieces → all_stand_apart pieces ≡ true → tokens (spell pieces) ≡ Ok (cut_tokens (meant_tokens pieces))

-- brackets that are meant are marked, and no others
abbrev pub TemplatesLaw : Type 0
TemplatesLaw = (pieces : List Piece) → length (spell pieces) < 2 ^ 32 → are_well_bracketed pieces ≡ true → with_templates (cut_tokens (meant_tokens pieces)) ≡ Ok (meant_tokens pieces)

-- what is written is read as the tokens that were meant
abbrev pub ReadLaw : Type 0
ReadLaw = (pieces : List Piece) → length (spell pieces) < 2 ^ 32 → All IsGood pieces → all_stand_apart pieces ≡ true → are_well_bracketed pieces ≡ true
    → and_then (tokens (spell pieces)) with_templates ≡ Ok (meant_tokens pieces)
