-- Blocks and loops, of which some are written as `while` or `for`.
use Rattle.std.specs.Prelude.{◌&&◌, not, if◌then◌else◌, Bool, true, false, List, [], ◌∷◌, ◌++◌, Option, Some, None}
use Rattle.yettuvam_wgsl_pieces.specs.Pieces.{Piece, Sign}
use Rattle.yettuvam_wgsl_pieces.specs.declared.sign.Sign.TheVariants as sign
use Rattle.yettuvam_wgsl_write_blocks.specs.Parts.{Part, block_text, braced, other_part, texts}
use Rattle.yettuvam_wgsl_write_blocks.specs.declared.parts.PartKind.{PartKind}
use Rattle.yettuvam_wgsl_write_blocks.specs.declared.parts.PartKind.TheVariants as kind

abbrev pub is_guard : PartKind → Bool
is_guard kind.Guard = true
is_guard _ = false

abbrev pub is_block : PartKind → Bool
is_block kind.Block = true
is_block _ = false

abbrev pub is_loop : PartKind → Bool
is_loop kind.Loop = true
is_loop _ = false

abbrev pub is_update : PartKind → Bool
is_update kind.Update = true
is_update _ = false

-- a statement that may begin the head of a `for`
abbrev pub may_begin : PartKind → Bool
may_begin kind.Declaration = true
may_begin kind.Update = true
may_begin _ = false

-- ---- `for` and `while`

-- `for (INITIAL; CONDITION; STEP) {..}`, where the head follows INITIAL
unfoldable pub for_text : (initial head inside : List Piece) → List Piece
for_text initial head inside = Sign sign.ForWord ∷ Sign sign.LeftParen ∷ (initial ++ (head ++ braced inside))

-- `while CONDITION {..}`
unfoldable pub while_text : (condition inside : List Piece) → List Piece
while_text condition inside = Sign sign.WhileWord ∷ (condition ++ braced inside)

-- the head of a `for` from the first `;` on
unfoldable pub for_head : (condition step : List Piece) → List Piece
for_head condition step =
    Sign sign.HeadSemicolon ∷ (condition ++ Sign sign.HeadSemicolon ∷ (step ++ Sign sign.RightParen ∷ []))

abbrev pub has_none : List Piece → Bool
has_none [] = true
has_none (p ∷ ps) = false

-- a loop with a condition and no step is a `while`
abbrev pub is_while : (condition step : List Piece) → Bool
is_while condition step = not (has_none condition) && has_none step

abbrev pub head_loop_text : (condition step head inside : List Piece) → List Piece
head_loop_text condition step head inside =
    if is_while condition step then while_text condition inside else for_text [] head inside

-- a loop with a condition, a step and a body
unfoldable pub head_loop : (condition step inside : List Piece) → Part
head_loop condition step inside =
    let head = for_head condition step in
    record { kind = kind.Loop; text = head_loop_text condition step head inside; head = head; inside = inside }

-- ---- the form of a body

abbrev pub block_only : Part → Option Part
block_only p = if is_block p.kind then Some p else None

-- the condition of the guard before the block of a loop's body; of no guard, no pieces
abbrev pub guard_condition : List Part → List Piece
guard_condition (g ∷ b ∷ []) = if is_guard g.kind then g.head else []
guard_condition _ = []

-- the block of a loop's body that has nothing else but a guard
abbrev pub body_block : List Part → Option Part
body_block (b ∷ []) = block_only b
body_block (g ∷ b ∷ []) = if is_guard g.kind then block_only b else None
body_block _ = None

-- the step of a `for` that does what a statement does
abbrev pub update_step : Part → Option (List Piece)
update_step u = if is_update u.kind then Some u.head else None

-- the step of a `for` that does what a `continuing` block does
abbrev pub step_of : List Part → Option (List Piece)
step_of [] = Some []
step_of (u ∷ []) = update_step u
step_of _ = None

-- ---- `loop`

-- `break if CONDITION;`
abbrev pub break_if_text : Option (List Piece) → List Piece
break_if_text None = []
break_if_text (Some c) = Sign sign.BreakWord ∷ Sign sign.IfWord ∷ (c ++ Sign sign.Semicolon ∷ [])

-- `continuing {..}`
unfoldable pub continuing_block : List Part → Option (List Piece) → List Piece
continuing_block continuing break_if =
    Sign sign.ContinuingWord ∷ Sign sign.LeftBrace ∷ (texts continuing ++ (break_if_text break_if ++ Sign sign.RightBrace ∷ []))

abbrev pub is_empty : List Part → Option (List Piece) → Bool
is_empty [] None = true
is_empty _ _ = false

-- a `continuing` block that has nothing is left out
abbrev pub continuing_text : List Part → Option (List Piece) → List Piece
continuing_text continuing break_if = if is_empty continuing break_if then [] else continuing_block continuing break_if

-- `loop {..}`
unfoldable pub loop_text : (body continuing : List Part) → Option (List Piece) → List Piece
loop_text body continuing break_if =
    Sign sign.LoopWord ∷ Sign sign.LeftBrace ∷ (texts body ++ (continuing_text continuing break_if ++ Sign sign.RightBrace ∷ []))

abbrev pub plain_loop : (body continuing : List Part) → Option (List Piece) → Part
plain_loop body continuing break_if = other_part (loop_text body continuing break_if)

abbrev pub loop_by : Option Part → Option (List Piece) → (body continuing : List Part) → Part
loop_by (Some block) (Some step) body continuing = head_loop (guard_condition body) step block.inside
loop_by _ _ body continuing = plain_loop body continuing None

-- a loop without the condition that ends it after the `continuing` block
unfoldable pub endless_loop : (body continuing : List Part) → Part
endless_loop body continuing = loop_by (body_block body) (step_of continuing) body continuing

-- a loop of its body, its `continuing` block, and the condition that ends it
abbrev pub loop_part : (body continuing : List Part) → Option (List Piece) → Part
loop_part body continuing None = endless_loop body continuing
loop_part body continuing (Some c) = plain_loop body continuing (Some c)

-- ---- blocks

-- a block is a `for` if it has what begins a `for`, and a loop
abbrev pub block_statement : List Part → List Piece
block_statement (first ∷ second ∷ []) =
    if may_begin first.kind && is_loop second.kind then for_text first.head second.head second.inside
    else block_text (first ∷ second ∷ [])
block_statement ps = block_text ps

-- a block that stands among statements
abbrev pub block_part : List Part → Part
block_part ps = record { kind = kind.Block; text = block_statement ps; head = []; inside = texts ps }
