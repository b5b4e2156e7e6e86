-- The blocks of a body that are open, and the statements around them.
use Rattle.std.specs.Prelude.{ℕ, ◌-◌, ◌==◌, if◌then◌else◌, not, Bool, true, false, List, [], ◌∷◌, ◌++◌}
use Rattle.std.specs.Prelude.{length, map, take, slice_index_or, Option, Some, None, option_map, Result, Ok, Err, Vec}
use Rattle.std.specs.declared.alloc.Global.{Global}
use Rattle.naga_oil_ir.specs.Body.{Tokens}
use Rattle.naga_oil_ir.specs.Spans.{undefined}
use Rattle.naga_oil_ir.specs.declared.span.Span.{Span}
use Rattle.naga_oil_ir.specs.declared.tokens.Token.TheVariants.{Flag, Plain, Use}
use Rattle.yettuvam_wgsl_pieces.specs.Pieces.{Piece, Sign, piece_of}
use Rattle.yettuvam_wgsl_pieces.specs.declared.piece.Piece.{Piece as PieceByCode}
use Rattle.yettuvam_wgsl_pieces.specs.declared.sign.Sign.TheVariants as sign
use Rattle.yettuvam_wgsl_written.specs.Outcomes.{Outcome, ◌>>=◌}
use Rattle.yettuvam_wgsl_written.specs.Written.{Written, value_pieces}
use Rattle.yettuvam_wgsl_write_expressions.specs.Operands.{operand}
use Rattle.yettuvam_wgsl_write_blocks.specs.Branches.{if_part}
use Rattle.yettuvam_wgsl_write_blocks.specs.Loops.{block_part, loop_part}
use Rattle.yettuvam_wgsl_write_blocks.specs.Parts.{Part, other_part, parts_of}
use Rattle.yettuvam_wgsl_write_blocks.specs.Switches.{arm_body, arm_selector, switch_head}
use Rattle.yettuvam_wgsl_write_blocks.specs.declared.blocks.Blocks.{Blocks}
use Rattle.yettuvam_wgsl_write_blocks.specs.declared.blocks.Frame.{Frame as FrameByCode}
use Rattle.yettuvam_wgsl_write_blocks.specs.declared.blocks.Role.{Role}
use Rattle.yettuvam_wgsl_write_blocks.specs.declared.blocks.Role.TheVariants as role
use Rattle.yettuvam_wgsl_write_blocks.specs.declared.blocks.TheConstants.{BLOCK_HEAD, IF_HEAD, LOOP_HEAD, SWITCH_HEAD}
use Rattle.yettuvam_wgsl_write_blocks.specs.declared.parts.Part.{Part as PartByCode}
use Rattle.yettuvam_wgsl_write_blocks.specs.declared.switches.Selector.{Selector}
use denote.Ref.{Bor}

-- ---- the state

-- a statement whose blocks haven't all ended: what its next block is, its condition or the text so far, and the first block
pub record Frame : Type 0 where
  pub role : Role
  pub span : Span
  pub text : List Piece
  pub first : List Part

abbrev pub make_frame : Role → Span → List Piece → List Part → Frame
make_frame r span text first = record { role = r; span = span; text = text; first = first }

abbrev pub frame_of : FrameByCode → Frame
frame_of f = make_frame f.role f.span (map piece_of f.text.items) (parts_of f.first.items)

abbrev pub frames_of : List FrameByCode → List Frame
frames_of fs = map frame_of fs

abbrev pub blocks_of : List (Vec PartByCode Global) → List (List Part)
blocks_of bs = map (λ b. parts_of b.items) bs

-- the statements around the open blocks, the statements so far of the innermost block, and those of the blocks around it
pub record State : Type 0 where
  pub frames : List Frame
  pub parts : List Part
  pub outer : List (List Part)

abbrev pub state_of : Blocks → State
state_of b = record { frames = frames_of b.frames.items; parts = parts_of b.parts.items; outer = blocks_of b.outer.items }

-- what a step makes of the state, or the span of what WGSL can't say
abbrev pub Done : Type 0
Done = Result State Span

abbrev pub started : State
started = record { frames = []; parts = []; outer = [] }

-- ---- stacks

abbrev pub front : {X : Type 0} → List X → List X
front xs = take (length xs - 1) xs

abbrev pub block_frame : Frame
block_frame = make_frame role.Block undefined [] []

abbrev pub last_frame : List Frame → Frame
last_frame fs = slice_index_or fs (length fs - 1) block_frame

abbrev pub last_block : List (List Part) → List Part
last_block bs = slice_index_or bs (length bs - 1) []

-- a statement follows in the innermost block
unfoldable pub add : Part → State → State
add p s = record s { parts = s.parts ++ p ∷ [] }

-- the next block belongs to a statement
unfoldable pub begin : Frame → State → State
begin f s = record s { frames = s.frames ++ f ∷ [] }

abbrev pub begin_with : Role → Span → List Piece → State → State
begin_with r span text s = begin (make_frame r span text []) s

-- a block begins
unfoldable pub open_ : State → State
open_ s = record s { outer = s.outer ++ s.parts ∷ []; parts = [] }

-- the innermost block ends
unfoldable pub ended : State → State
ended s = record s { parts = last_block s.outer; outer = front s.outer }

abbrev pub innermost : State → Frame
innermost s = last_frame s.frames

unfoldable pub without_frame : State → State
without_frame s = record s { frames = front s.frames }

-- ---- operands

-- an operand as a value
abbrev pub value : List Written → ℕ → Span → Outcome
value known h span = operand known h span >>= (λ w. Ok (value_pieces w true))

abbrev pub first_operand : Tokens → Option ℕ
first_operand (Use h ∷ ts) = Some h
first_operand _ = None

abbrev pub value_by : Option ℕ → List Written → Span → Outcome
value_by (Some h) known span = value known h span
value_by None known span = Err span

-- the operand at the front of a list of tokens as a value
abbrev pub first_value : List Written → Tokens → Span → Outcome
first_value known ts span = value_by (first_operand ts) known span

-- ---- `if`, loops and blocks

abbrev pub add_block : List Part → State → State
add_block ps s = add (block_part ps) s

abbrev pub add_if : Frame → List Part → State → State
add_if f reject s = add (if_part f.text f.first reject) s

abbrev pub condition_of : Option (Vec PieceByCode Global) → Option (List Piece)
condition_of c = option_map (λ v. map piece_of v.items) c

abbrev pub condition_in : Option (Bor (List PieceByCode)) → Option (List Piece)
condition_in c = option_map (λ v. map piece_of v.now) c

abbrev pub break_if_by : Option ℕ → List Written → Span → Result (Option (List Piece)) Span
break_if_by (Some h) known span = value known h span >>= (λ c. Ok (Some c))
break_if_by None known span = Ok None

-- the condition that ends a loop, from the tokens after its last block
abbrev pub break_if : List Written → Tokens → Span → Result (Option (List Piece)) Span
break_if known ts span = break_if_by (first_operand ts) known span

unfoldable pub add_loop : List Written → Frame → List Part → Tokens → State → Done
add_loop known f continuing ts s =
    break_if known ts f.span >>= (λ c. Ok (add (loop_part f.first continuing c) s))

-- ---- `switch`

abbrev pub first_selector : Tokens → Option Selector
first_selector (Plain value ∷ Flag falls_through ∷ ts) = Some (record { value = value; falls_through = falls_through })
first_selector _ = None

abbrev pub after_first : Tokens → Tokens
after_first [] = []
after_first (t ∷ ts) = ts

abbrev pub arm_role : Selector → Role
arm_role s = if s.falls_through then role.FallThrough else role.Arm

-- a selector follows in the text of a `switch`
unfoldable pub begin_arm : Span → List Piece → Bool → Selector → State → Done
begin_arm span text follows selector s =
    arm_selector follows selector span >>= (λ ps. Ok (begin_with (arm_role selector) span (text ++ ps) s))

-- a `switch` ends
unfoldable pub end_switch : List Piece → State → State
end_switch text s = add (other_part (text ++ Sign sign.RightBrace ∷ [])) s

abbrev pub end_arms : Span → List Piece → Bool → State → Done
end_arms span text follows s = if follows then Err span else Ok (end_switch text s)

abbrev pub next_arm_by : Option Selector → Span → List Piece → Bool → State → Done
next_arm_by (Some selector) span text follows s = begin_arm span text follows selector s
next_arm_by None span text follows s = end_arms span text follows s

-- the next arm begins, or the `switch` ends; the last selector may fall through
unfoldable pub next_arm : Span → List Piece → (follows : Bool) → Tokens → State → Done
next_arm span text follows ts s = next_arm_by (first_selector ts) span text follows s

-- the body of an arm has ended
unfoldable pub end_arm : Frame → List Part → Tokens → State → Done
end_arm f ps ts s = next_arm f.span (f.text ++ arm_body ps) false ts s

abbrev pub is_empty : List Part → Bool
is_empty [] = true
is_empty (p ∷ ps) = false

-- a selector that falls through has no statements
unfoldable pub fall_through : Frame → List Part → Tokens → State → Done
fall_through f ps ts s = if not (is_empty ps) then Err f.span else next_arm f.span f.text true ts s

-- ---- steps

abbrev pub closed_by : Role → List Written → Frame → List Part → Tokens → State → Done
closed_by role.Block known f ps ts s = Ok (add_block ps s)
closed_by role.Accept known f ps ts s = Ok (begin (make_frame role.Reject f.span f.text ps) s)
closed_by role.Reject known f ps ts s = Ok (add_if f ps s)
closed_by role.LoopBody known f ps ts s = Ok (begin (make_frame role.Continuing f.span f.text ps) s)
closed_by role.Continuing known f ps ts s = add_loop known f ps ts s
closed_by role.Arm known f ps ts s = end_arm f ps ts s
closed_by role.FallThrough known f ps ts s = fall_through f ps ts s

-- the innermost block of a statement has ended
unfoldable pub closed : List Written → Frame → List Part → Tokens → State → Done
closed known f ps ts s = closed_by f.role known f ps ts s

-- the innermost block ends, with these tokens after its end
unfoldable pub close : List Written → Tokens → State → Done
close known ts s =
    let t = ended s in
    closed known (innermost t) s.parts ts (without_frame t)

unfoldable pub begin_if : List Written → Span → Tokens → State → Done
begin_if known span ts s = first_value known ts span >>= (λ c. Ok (begin_with role.Accept span c s))

unfoldable pub begin_switch : List Written → Span → Tokens → State → Done
begin_switch known span ts s =
    first_value known ts span >>= (λ v. next_arm span (switch_head v) false (after_first ts) s)

-- a statement with blocks begins, with these tokens after its head
unfoldable pub begin_statement : List Written → Span → ℕ → Tokens → State → Done
begin_statement known span kind ts s =
    if kind == BLOCK_HEAD then Ok (begin_with role.Block span [] s)
    else (if kind == IF_HEAD then begin_if known span ts s
    else (if kind == SWITCH_HEAD then begin_switch known span ts s
    else (if kind == LOOP_HEAD then Ok (begin_with role.LoopBody span [] s) else Err span)))
