-- Reads a body.
use Rattle.std.specs.Prelude.{ℕ, ◌-◌, ◌==◌, ◌&&◌, ◌||◌, nat_lt, not, min, if◌then◌else◌, Bool, true, false, List, [], ◌∷◌, ◌++◌, length, map, take, drop, slice_index_or, slice_set, Option, Some, None}
use Rattle.naga_oil_ir.specs.Body.{Tokens}
use Rattle.naga_oil_ir.specs.ModuleValue.{FunctionValue}
use Rattle.naga_oil_ir.specs.Parts.{Parts}
use Rattle.naga_oil_ir.specs.declared.span.Span.{Span}
use Rattle.naga_oil_ir.specs.declared.tokens.Token.{Token}
use Rattle.naga_oil_ir.specs.declared.tokens.Token.TheVariants.{Head, Emitted, Open, Close}
use Rattle.yettuvam_wgsl_natures.specs.Called.{called_function}
use Rattle.yettuvam_wgsl_natures.specs.Natures.{is_named}
use Rattle.yettuvam_wgsl_natures.specs.Operands.{text_operands}
use Rattle.yettuvam_wgsl_natures.specs.declared.called.TheConstants.{NO_FUNCTION}
use Rattle.yettuvam_wgsl_lines.specs.Line.{LineValue, Lines, line_value, lines_value}
use Rattle.yettuvam_wgsl_lines.specs.Parts.{operands_by, function_by, made_by, condition_by}
use Rattle.yettuvam_wgsl_lines.specs.declared.line.TheConstants.{EMIT, LOOP, BREAK_IF, START}
use Rattle.yettuvam_wgsl_lines.specs.declared.reader.Body.{Body}
use Rattle.yettuvam_wgsl_lines.specs.declared.reader.Content.{Content}
use Rattle.yettuvam_wgsl_lines.specs.declared.reader.Part.{Part}
use Rattle.yettuvam_wgsl_lines.specs.declared.reader.Part.TheVariants.{Plain, LoopBody, Continuing}
use Rattle.yettuvam_wgsl_lines.specs.declared.reader.Reader.{Reader}

-- ---- the state

-- the lines so far, the ends of the scopes of blocks, the open blocks with the innermost last, what the next block is, and
-- whether blocks began or ended since the last line
pub record State : Type 0 where
  pub lines : Lines
  pub ends : List (Option ℕ)
  pub open_blocks : List (ℕ × Part)
  pub next : Part
  pub has_opened : Bool
  pub has_closed : Bool

abbrev pub state_of : Reader → State
state_of r = record {
  lines = lines_value r.lines.items;
  ends = r.ends.items;
  open_blocks = r.blocks.items;
  next = r.next;
  has_opened = r.has_opened;
  has_closed = r.has_closed;
}

-- what a line names and makes
pub record ContentValue : Type 0 where
  pub kind : ℕ
  pub function : ℕ
  pub operands : List ℕ
  pub made : Option ℕ
  pub is_named : Bool

abbrev pub content : ℕ → ℕ → List ℕ → Option ℕ → Bool → ContentValue
content k f os m n = record { kind = k; function = f; operands = os; made = m; is_named = n }

abbrev pub content_value : Content → ContentValue
content_value c = content c.kind c.function c.operands.items c.made c.is_named

abbrev pub named_result : FunctionValue → Option ℕ → Option ℕ × Bool
named_result f None = (None, false)
named_result f (Some h) = (Some h, is_named f h)

-- the result of a statement, and whether it has a name
abbrev pub result_by : FunctionValue → Tokens → Option ℕ × Bool
result_by f ts = named_result f (made_by ts)

-- ---- blocks

abbrev pub next_part : ℕ → Part
next_part kind = if kind == LOOP then LoopBody else Plain

-- the innermost open block, and those around it
abbrev pub last : List (ℕ × Part) → ℕ × Part
last bs = slice_index_or bs (length bs - 1) (0, Plain)

abbrev pub front : List (ℕ × Part) → List (ℕ × Part)
front bs = take (length bs - 1) bs

abbrev pub last_block : List (ℕ × Part) → ℕ
last_block bs = (last bs).0

-- the scope of a block ends at a token
abbrev pub ended : List (Option ℕ) → ℕ → ℕ → List (Option ℕ)
ended ends block at = slice_set ends block (Some at)

unfoldable pub begin : State → State
begin s = record s {
  ends = s.ends ++ None ∷ [];
  open_blocks = s.open_blocks ++ (length s.ends, s.next) ∷ [];
  next = Plain;
  has_opened = true;
}

-- the scope of a loop's body ends with the `continuing` block
unfoldable pub leave : ℕ → ℕ → Part → State → State
leave at block Plain s = record s { ends = ended s.ends block at }
leave at block LoopBody s = record s { next = Continuing block }
leave at block (Continuing body) s = record s { ends = ended (ended s.ends block at) body at }

unfoldable pub close : ℕ → State → State
close at s =
    let b = last s.open_blocks in
    leave at b.0 b.1 record s { open_blocks = front s.open_blocks; next = Plain; has_closed = true }

-- ---- lines

-- a line with this content follows
unfoldable pub push : ℕ → ContentValue → State → State
push at c s = record s {
  lines = s.lines ++ record {
    kind = c.kind;
    at = at;
    number = length s.lines;
    block = last_block s.open_blocks;
    follows = not s.has_opened && (not s.has_closed || c.kind == BREAK_IF);
    function = c.function;
    operands = c.operands;
    made = c.made;
    is_named = c.is_named;
  } ∷ [];
  has_opened = false;
  has_closed = false;
}

-- what a statement names and makes
unfoldable pub statement_content : FunctionValue → ℕ → Tokens → ContentValue
statement_content f kind ts =
    let operands = operands_by kind ts in
    let r = result_by f ts in
    content kind (function_by kind operands ts) operands r.0 r.1

-- a statement that begins with a head; the tokens after it follow. An emitted range has lines for its expressions only
unfoldable pub statement : FunctionValue → ℕ → ℕ → Tokens → State → State
statement f at kind ts s =
    let after = record s { next = next_part kind } in
    if kind == EMIT then after else push at (statement_content f kind ts) after

unfoldable pub emitted : FunctionValue → ℕ → ℕ → Parts → State → State
emitted f at place e s = push at (content EMIT (called_function e) (text_operands e) (Some place) (is_named f place)) s

-- expressions before a place are emitted
unfoldable pub emit_all : FunctionValue → ℕ → ℕ → List (Parts × Span) → State → State
emit_all f at end [] s = s
emit_all f at end (e ∷ es) s = emit_all f at end es (emitted f at (end - length (e ∷ es)) e.0 s)

-- the expressions of a range
abbrev pub ranged : List (Parts × Span) → ℕ → ℕ → List (Parts × Span)
ranged es start end = if nat_lt start end then take (end - start) (drop start es) else []

unfoldable pub emit : FunctionValue → ℕ → ℕ × ℕ → State → State
emit f at r s =
    let end = min r.1 (length f.expressions) in
    emit_all f at end (ranged f.expressions r.0 end) s

-- the condition that ends a loop is a line of its own
unfoldable pub break_if : ℕ → ℕ → State → State
break_if at condition s = push at (content BREAK_IF NO_FUNCTION (condition ∷ []) None false) s

abbrev pub break_if_any : ℕ → Option ℕ → State → State
break_if_any at None s = s
break_if_any at (Some condition) s = break_if at condition s

unfoldable pub finish : ℕ → Tokens → State → State
finish at ts s = break_if_any at (condition_by ts) (close at s)

-- ---- a body

-- a token at a place; the tokens after it follow
unfoldable pub step : FunctionValue → ℕ → Token → Tokens → State → State
step f at (Head kind) ts s = statement f at kind ts s
step f at (Emitted r) ts s = emit f at r s
step f at Open ts s = begin s
step f at Close ts s = finish at ts s
step f at _ ts s = s

-- the last of n tokens
unfoldable pub run : FunctionValue → ℕ → Tokens → State → State
run f n [] s = s
run f n (t ∷ ts) s = run f n ts (step f (n - length (t ∷ ts)) t ts s)

-- the line before the first
abbrev pub first_line : LineValue
first_line = record {
  kind = START;
  at = 0;
  number = 0;
  block = 0;
  follows = false;
  function = NO_FUNCTION;
  operands = [];
  made = None;
  is_named = false;
}

abbrev pub started : State
started = record {
  lines = first_line ∷ [];
  ends = None ∷ [];
  open_blocks = (0, Plain) ∷ [];
  next = Plain;
  has_opened = false;
  has_closed = false;
}

-- the lines of a body, and where the scope of each block ends
pub record BodyValue : Type 0 where
  pub lines : Lines
  pub ends : List (Option ℕ)

abbrev pub body_value : Body → BodyValue
body_value b = record { lines = lines_value b.lines.items; ends = b.ends.items }

abbrev pub lines_of : FunctionValue → Tokens → BodyValue
lines_of f ts =
    let s = run f (length ts) ts started in
    record { lines = s.lines; ends = s.ends }
