-- `if` with its `else`.
use Rattle.std.specs.Prelude.{if◌then◌else◌, Bool, true, false, List, [], ◌∷◌, ◌++◌, Option, Some, None}
use Rattle.yettuvam_wgsl_pieces.specs.Pieces.{Piece, Sign}
use Rattle.yettuvam_wgsl_pieces.specs.declared.sign.Sign.TheVariants as sign
use Rattle.yettuvam_wgsl_write_blocks.specs.Parts.{Part, block_text}
use Rattle.yettuvam_wgsl_write_blocks.specs.declared.parts.PartKind.{PartKind}
use Rattle.yettuvam_wgsl_write_blocks.specs.declared.parts.PartKind.TheVariants as kind

abbrev pub is_if : PartKind → Bool
is_if kind.If = true
is_if kind.Guard = true
is_if _ = false

abbrev pub is_break : PartKind → Bool
is_break kind.Break = true
is_break _ = false

-- the `if` that is alone in a block
abbrev pub only_if : List Part → Option Part
only_if (p ∷ []) = if is_if p.kind then Some p else None
only_if _ = None

abbrev pub alternative_by : Option Part → List Part → List Piece
alternative_by (Some p) reject = p.text
alternative_by None reject = block_text reject

-- what follows `else`: an `if`, or a block
abbrev pub alternative : List Part → List Piece
alternative reject = alternative_by (only_if reject) reject

-- a block of no statements has no `else`
abbrev pub else_text : List Part → List Piece
else_text [] = []
else_text (p ∷ ps) = Sign sign.ElseWord ∷ alternative (p ∷ ps)

-- `if CONDITION {..} else {..}`
unfoldable pub if_text : (condition : List Piece) → (accept reject : List Part) → List Piece
if_text condition accept reject = Sign sign.IfWord ∷ (condition ++ (block_text accept ++ else_text reject))

abbrev pub is_only_break : List Part → Bool
is_only_break (p ∷ []) = is_break p.kind
is_only_break _ = false

-- an `if` that leaves the loop, and does nothing else, is a guard
abbrev pub if_kind : (accept reject : List Part) → PartKind
if_kind [] reject = if is_only_break reject then kind.Guard else kind.If
if_kind (p ∷ ps) reject = kind.If

-- an `if` of a condition and two blocks
unfoldable pub if_part : (condition : List Piece) → (accept reject : List Part) → Part
if_part condition accept reject = record {
  kind = if_kind accept reject;
  text = if_text condition accept reject;
  head = condition;
  inside = [];
}
