-- How bodies end, as WGSL analyses the behavior of statements, and where jumps may stand.
use Rattle.std.specs.Prelude.{◌≡◌, ℕ, Bool, true, false, not, ◌==◌, ◌&&◌, ◌||◌, if◌then◌else◌, ◌-◌, List, [], ◌∷◌, ◌++◌, length, take, slice_index_or, Result, Ok, Err}
use Rattle.naga_oil_ir.specs.Body.{Tokens}
use Rattle.naga_oil_ir.specs.Spans.{undefined}
use Rattle.naga_oil_ir.specs.declared.span.Span.{Span}
use Rattle.naga_oil_ir.specs.declared.tokens.Token.{Token}
use Rattle.naga_oil_ir.specs.declared.tokens.Token.TheVariants.{At, Head, Plain, Flag, Use, Open, Close}
use Rattle.yettuvam_wgsl_names.specs.declared.form_codes.TheConstants.{DEFAULT_SELECTOR}
use Rattle.yettuvam_wgsl_valid_items.specs.Faults.{Outcome, valid, fault}
use Rattle.yettuvam_wgsl_valid_items.specs.declared.faults.Fault.{Fault}
use Rattle.yettuvam_wgsl_valid_items.specs.declared.faults.Invalid.{Invalid}
use Rattle.yettuvam_wgsl_valid_items.specs.declared.faults.Invalid.TheVariants as invalid
use Rattle.yettuvam_wgsl_valid_items.specs.declared.faults.Reason.{Reason}
use Rattle.yettuvam_wgsl_valid_items.specs.declared.faults.Reason.TheVariants as reason
use Rattle.yettuvam_wgsl_valid.specs.declared.flow.Behavior.{Behavior}
use Rattle.yettuvam_wgsl_valid.specs.declared.flow.Blocks.{Blocks}
use Rattle.yettuvam_wgsl_valid.specs.declared.flow.Blocks.TheVariants as blocks
use Rattle.yettuvam_wgsl_valid.specs.declared.flow.Flow.{Flow}
use Rattle.yettuvam_wgsl_valid.specs.declared.flow.Frame.{Frame}
use Rattle.yettuvam_wgsl_valid.specs.declared.flow.Jumps.{Jumps}
use Rattle.yettuvam_wgsl_valid.specs.declared.flow.Statement.{Statement}
use Rattle.yettuvam_wgsl_valid.specs.declared.flow.TheConstants.{BLOCK_HEAD, IF_HEAD, SWITCH_HEAD, LOOP_HEAD, BREAK_HEAD, CONTINUE_HEAD, RETURN_HEAD, NEXT, NEITHER, BREAK}

-- ---- behaviors

-- two statements one after the other
abbrev pub sequence : Behavior → Behavior → Behavior
sequence a b = if a.next then (record { next = b.next; breaks = a.breaks || b.breaks }) else a

-- two blocks one of which is taken
abbrev pub either : Behavior → Behavior → Behavior
either a b = record { next = a.next || b.next; breaks = a.breaks || b.breaks }

-- a loop of whose blocks one has a behavior: a break goes on after the loop
abbrev pub of_loop : Behavior → Behavior
of_loop b = record { next = b.breaks; breaks = false }

-- a switch of which an arm has a behavior: a break, and the end of an arm that doesn't fall through, go on after the switch
abbrev pub of_arm : Behavior → Bool → Behavior
of_arm b falls = record { next = b.breaks || (b.next && not falls); breaks = false }

-- ---- statements that are read

abbrev pub statement_with : Blocks → Behavior → Statement
statement_with bs b = record { blocks = bs; has_default = false; falls = false; behavior = b }

-- a statement without blocks
abbrev pub plain_statement : Statement
plain_statement = statement_with blocks.Branches NEXT

-- a switch without a default may take no arm
abbrev pub ended_by : Blocks → Bool → Behavior → Behavior
ended_by blocks.Arms has_default b = if has_default then b else either b NEXT
ended_by bs has_default b = b

-- the behavior of a statement that was read to its end
abbrev pub ended : Statement → Behavior
ended s = ended_by s.blocks s.has_default s.behavior

abbrev pub with_part : Statement → Blocks → Behavior → Statement
with_part s bs b = record { blocks = bs; has_default = s.has_default; falls = s.falls; behavior = either s.behavior b }

abbrev pub joined_by : Blocks → Statement → Behavior → Statement
joined_by blocks.Branches s b = with_part s blocks.Branches b
joined_by blocks.Arms s b = with_part s blocks.Arms (of_arm b s.falls)
joined_by blocks.LoopBody s b = with_part s blocks.Continuing (of_loop b)
joined_by blocks.Continuing s b = with_part s blocks.Continuing (of_loop b)

-- a statement after a block of it with a behavior
abbrev pub joined : Statement → Behavior → Statement
joined s b = joined_by s.blocks s b

-- a statement that isn't a jump, before its blocks
abbrev pub compound : ℕ → Statement
compound kind =
    if (kind == BLOCK_HEAD) || (kind == IF_HEAD) then statement_with blocks.Branches NEITHER
    else (if kind == SWITCH_HEAD then statement_with blocks.Arms NEITHER
    else (if kind == LOOP_HEAD then statement_with blocks.LoopBody NEITHER else plain_statement))

abbrev pub with_operand_by : Blocks → Statement → Statement
with_operand_by blocks.Continuing s = with_part s blocks.Continuing NEXT
with_operand_by bs s = s

-- a statement with an operand, which after the blocks of a loop is the condition of `break if`
abbrev pub with_operand : Statement → Statement
with_operand s = with_operand_by s.blocks s

-- the jumps that may stand in a block of a statement
abbrev pub inside : Blocks → Jumps → Jumps
inside blocks.Branches j = j
inside blocks.Arms j = record { breaks = true; continues = j.continues; returns = j.returns }
inside blocks.LoopBody j = record { breaks = true; continues = true; returns = j.returns }
inside blocks.Continuing j = record { breaks = false; continues = false; returns = false }

-- ---- the walk

pub record State : Type 0 where
  -- the surroundings of the open blocks, the innermost last
  pub frames : List Frame
  -- the behavior of the statements of the block before the one that is read
  pub before : Behavior
  pub statement : Statement
  pub jumps : Jumps
  -- the last plain value
  pub plain : ℕ
  pub span : Span

abbrev pub state_of : Flow → State
state_of f = record { frames = f.frames.items; before = f.before; statement = f.statement; jumps = f.jumps; plain = f.plain; span = f.span }

-- what a step finds: the state after it, or a fault
abbrev pub Done : Type 0
Done = Result State Fault

infixl 10 ◌>>=◌
abbrev pub ◌>>=◌ : Done → (State → Done) → Done
(Ok s) >>= f = f s
(Err e) >>= f = Err e

abbrev pub Steps : Done → Result (Unit {0}) Invalid → State → Type 0
Steps outcome (Ok u) new = outcome ≡ Ok new
Steps outcome (Err (invalid.Fault f)) new = outcome ≡ Err f
Steps outcome (Err invalid.Memory) new = Unit {0}

-- the statement that is read ends
abbrev pub finish : State → State
finish s = record s { before = sequence s.before (ended s.statement); statement = plain_statement }

abbrev pub start : Span → State → State
start at s = record (finish s) { span = at }

unfoldable pub jump : Bool → Reason → Behavior → State → Done
jump allowed why b s =
    if allowed then Ok (record s { statement = statement_with blocks.Branches b }) else Err (record { reason = why; span = s.span })

unfoldable pub head : ℕ → State → Done
head kind s =
    if kind == BREAK_HEAD then jump s.jumps.breaks reason.NoLoop BREAK s
    else (if kind == CONTINUE_HEAD then jump s.jumps.continues reason.NoLoop NEITHER s
    else (if kind == RETURN_HEAD then jump s.jumps.returns reason.ReturnInContinuing NEITHER s
    else Ok (record s { statement = compound kind })))

abbrev pub with_selector : Statement → Bool → Bool → Statement
with_selector r is_default falls = record { blocks = r.blocks; has_default = r.has_default || is_default; falls = falls; behavior = r.behavior }

-- the selector of an arm was the last plain value
abbrev pub selector : Bool → State → State
selector falls s = record s { statement = with_selector s.statement (s.plain == DEFAULT_SELECTOR) falls }

abbrev pub operand : State → State
operand s = record s { statement = with_operand s.statement }

abbrev pub frame_of : State → Frame
frame_of s = record { before = s.before; statement = s.statement; jumps = s.jumps }

unfoldable pub enter_block : State → Done
enter_block s = Ok (record s { frames = s.frames ++ frame_of s ∷ []; before = NEXT; statement = plain_statement; jumps = inside s.statement.blocks s.jumps })

-- the outside of a body, where the function may return
abbrev pub start_frame : Frame
start_frame = record { before = NEXT; statement = plain_statement; jumps = record { breaks = false; continues = false; returns = true } }

abbrev pub last_frame : List Frame → Frame
last_frame fs = slice_index_or fs (length fs - 1) start_frame

abbrev pub front_frames : List Frame → List Frame
front_frames fs = take (length fs - 1) fs

-- a block ends, with a behavior, in the statement that it stands in
abbrev pub leave : Frame → Behavior → State → State
leave f block s = record s { frames = front_frames s.frames; before = f.before; statement = joined f.statement block; jumps = f.jumps }

abbrev pub leave_last : State → State
leave_last s = leave (last_frame s.frames) s.before s

abbrev pub close : State → State
close s = leave_last (finish s)

unfoldable pub step : Token → State → Done
step (At at) s = Ok (start at s)
step (Head kind) s = head kind s
step (Plain n) s = Ok (record s { plain = n })
step (Flag falls) s = Ok (selector falls s)
step (Use h) s = Ok (operand s)
step Open s = enter_block s
step Close s = Ok (close s)
step t s = Ok s

unfoldable pub run : Tokens → State → Done
run [] s = Ok s
run (t ∷ ts) s = step t s >>= run ts

abbrev pub start_state : State
start_state = record { frames = []; before = start_frame.before; statement = start_frame.statement; jumps = start_frame.jumps; plain = 0; span = undefined }

abbrev pub behavior_in : Done → Result Behavior Fault
behavior_in (Ok s) = Ok (finish s).before
behavior_in (Err e) = Err e

-- the behavior of a body
abbrev pub behavior_of : Tokens → Result Behavior Fault
behavior_of ts = behavior_in (run ts start_state)

-- a function returned what is found, unless memory ran out
abbrev pub Finds : {X : Type 0} → Result X Fault → Result X Invalid → Type 0
Finds outcome (Ok x) = outcome ≡ Ok x
Finds outcome (Err (invalid.Fault f)) = outcome ≡ Err f
Finds outcome (Err invalid.Memory) = Unit {0}

-- ---- the whole test

abbrev pub is_some_token : Tokens → Bool
is_some_token [] = false
is_some_token (t ∷ ts) = true

abbrev pub unless_next : Result Behavior Fault → Bool → Span → Outcome
unless_next (Ok b) must_return at = if must_return && b.next then fault reason.NoReturn at else valid
unless_next (Err e) must_return at = Err e

-- a body's jumps stand where they may, and its end isn't reached if it has statements and its function has a result
abbrev pub flow_valid : Tokens → Bool → Span → Outcome
flow_valid ts has_result at = unless_next (behavior_of ts) (has_result && is_some_token ts) at
