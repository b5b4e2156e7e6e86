-- The tokens of a body, one after the other.
use Rattle.std.specs.Prelude.{ℕ, ◌-◌, ◌==◌, nat_le, min, if◌then◌else◌, List, [], ◌∷◌, length, slice_set, Option, Some, None, Result, Ok, Err}
use Rattle.naga_oil_ir.specs.Body.{Tokens}
use Rattle.naga_oil_ir.specs.Parts.{Parts}
use Rattle.naga_oil_ir.specs.declared.span.Span.{Span}
use Rattle.naga_oil_ir.specs.declared.tokens.Token.{Token}
use Rattle.naga_oil_ir.specs.declared.tokens.Token.TheVariants.{At, Close, Emitted, Head, Open}
use Rattle.yettuvam_wgsl_lines.specs.Reader.{ranged}
use Rattle.yettuvam_wgsl_lines.specs.declared.line.TheConstants.{EMIT}
use Rattle.yettuvam_wgsl_names.specs.Table.{Name}
use Rattle.yettuvam_wgsl_pieces.specs.Pieces.{Piece}
use Rattle.yettuvam_wgsl_statements.specs.Simple.{Found, simple_at}
use Rattle.yettuvam_wgsl_statements.specs.declared.simple.Simple.{Simple}
use Rattle.yettuvam_wgsl_written.specs.Outcomes.{Outcome, ◌>>=◌}
use Rattle.yettuvam_wgsl_written.specs.Written.{Written, name}
use Rattle.yettuvam_wgsl_written.specs.declared.written.Role.TheVariants as role
use Rattle.yettuvam_wgsl_write_types.specs.Types.{values_of}
use Rattle.yettuvam_wgsl_write_expressions.specs.Expressions.{expression}
use Rattle.yettuvam_wgsl_write_expressions.specs.Operands.{value}
use Rattle.yettuvam_wgsl_write_statements.specs.Calls.{Given}
use Rattle.yettuvam_wgsl_write_statements.specs.Declarations.{value_declaration}
use Rattle.yettuvam_wgsl_write_statements.specs.Statements.{operands_of, result_of, simple}
use Rattle.yettuvam_wgsl_write_blocks.specs.Blocks as blocks
use Rattle.yettuvam_wgsl_write_blocks.specs.Parts.{Part, simple_part}
use Rattle.yettuvam_wgsl_write_blocks.specs.declared.blocks.TheConstants.{LOOP_HEAD}
use Rattle.yettuvam_wgsl_write_blocks.specs.declared.parts.PartKind.TheVariants as kind
use Rattle.yettuvam_wgsl_write_bodies.specs.Given.{given_at, kind_of}
use Rattle.yettuvam_wgsl_write_bodies.specs.Setting.{Setting, scope, value_name}
use Rattle.yettuvam_wgsl_write_bodies.specs.Values.{named_role}
use Rattle.yettuvam_wgsl_write_bodies.specs.declared.writer.Writer.{Writer}

-- ---- the state

-- the open blocks, how each expression is written, and the span of the innermost statement
pub record State : Type 0 where
  pub blocks : blocks.State
  pub known : List Written
  pub span : Span

abbrev pub state_of : Writer → State
state_of w = record { blocks = blocks.state_of w.blocks; known = values_of w.known.items; span = w.span }

abbrev pub Done : Type 0
Done = Result State Span

abbrev pub with_blocks_by : blocks.State → State → State
with_blocks_by b st = record st { blocks = b }

-- a statement follows in the innermost block
abbrev pub add : Part → State → State
add p st = with_blocks_by (blocks.add p st.blocks) st

-- an expression is written so from now on
abbrev pub put : ℕ → Written → State → State
put place w st = record st { known = slice_set st.known place w }

-- ---- emitted expressions

abbrev pub named : Name → Written → Written
named n w = name n (named_role w.role)

-- an expression that is written is declared
unfoldable pub declare : Setting → ℕ → Name → Parts → Written → Span → State → Done
declare s place n p w span st =
    value_declaration (scope s span) n p w
    >>= (λ text. Ok (put place (named n w) (add (simple_part kind.Declaration text) st)))

abbrev pub emit_by : Option Name → Setting → ℕ → Parts → Written → Span → State → Done
emit_by (Some n) s place p w span st = declare s place n p w span st
emit_by None s place p w span st = Ok (put place w st)

-- an expression is emitted: it is declared if it has a name
unfoldable pub emit : Setting → ℕ → Parts × Span → State → Done
emit s place e st =
    expression (scope s e.1) st.known e.0
    >>= (λ w. emit_by (value_name s place) s place e.0 w e.1 st)

-- the expressions before a place are emitted
unfoldable pub emit_all : Setting → ℕ → List (Parts × Span) → State → Done
emit_all s end [] st = Ok st
emit_all s end (e ∷ es) st = emit s (end - length (e ∷ es)) e st >>= (λ t. emit_all s end es t)

unfoldable pub emit_range : Setting → ℕ × ℕ → State → Done
emit_range s r st =
    let es = s.function.expressions in
    let end = min r.1 (length es) in
    emit_all s end (ranged es r.0 end) st

-- ---- statements without blocks

-- the tokens after the head of a call and its callee
abbrev pub after_callee : Tokens → Tokens
after_callee (head ∷ callee ∷ ts) = ts
after_callee _ = []

abbrev pub call_written : List Piece → Written
call_written ps = value ps

-- the text of a statement is that of its result
abbrev pub merge_result : Option ℕ → List Piece → State → State
merge_result (Some h) ps st = put h (call_written ps) st
merge_result None ps st = st

-- the result of a statement has a name
abbrev pub name_result : Option ℕ → Option Name → State → State
name_result (Some h) (Some n) st = put h (name n role.Value) st
name_result _ _ st = st

unfoldable pub add_simple : Simple → Given → List Piece → State → State
add_simple of g ps st = name_result (result_of of) g.answer (add (simple_part (kind_of of g) ps) st)

-- a statement is written
unfoldable pub stated : Simple → Given → List Piece → State → State
stated of g ps st = if g.is_merged then merge_result (result_of of) ps st else add_simple of g ps st

-- the text of a statement
abbrev pub simple_text : Setting → Simple → Given → Tokens → State → Outcome
simple_text s of g ts st = simple (scope s st.span) st.known of g (operands_of (after_callee ts))

-- a statement of which this is known
abbrev pub given_statement : Setting → Simple → Given → Tokens → State → Done
given_statement s of g ts st = simple_text s of g ts st >>= (λ ps. Ok (stated of g ps st))

unfoldable pub simple_statement : Setting → ℕ → Simple → Tokens → State → Done
simple_statement s at of ts st = given_statement s of (given_at s at of) ts st

abbrev pub found_statement : Found → Setting → ℕ → Tokens → State → Done
found_statement (Some f) s at ts st = simple_statement s at f.0 ts st
found_statement None s at ts st = Err st.span

-- a statement without blocks, whose tokens are at the front
unfoldable pub without_blocks : Setting → ℕ → Tokens → State → Done
without_blocks s at ts st = found_statement (simple_at ts) s at ts st

-- ---- steps

unfoldable pub with_blocks : ℕ → Tokens → State → Done
with_blocks kind more st =
    blocks.begin_statement st.known st.span kind more st.blocks >>= (λ b. Ok (with_blocks_by b st))

-- a statement begins at a place: its tokens, and those after its head
unfoldable pub statement : Setting → ℕ → ℕ → (ts more : Tokens) → State → Done
statement s at kind ts more st =
    if kind == EMIT then Ok st else (if nat_le kind LOOP_HEAD then with_blocks kind more st else without_blocks s at ts st)

unfoldable pub opened : State → State
opened st = with_blocks_by (blocks.open_ st.blocks) st

unfoldable pub closed : Tokens → State → Done
closed more st = blocks.close st.known more st.blocks >>= (λ b. Ok (with_blocks_by b st))

-- a token at a place, with the tokens from it on and those after it
unfoldable pub step : Setting → ℕ → Token → (ts more : Tokens) → State → Done
step s at (At span) ts more st = Ok (record st { span = span })
step s at (Head kind) ts more st = statement s at kind ts more st
step s at (Emitted r) ts more st = emit_range s r st
step s at Open ts more st = Ok (opened st)
step s at Close ts more st = closed more st
step s at _ ts more st = Ok st

-- the last of n tokens
unfoldable pub run : Setting → ℕ → Tokens → State → Done
run s n [] st = Ok st
run s n (t ∷ ts) st = step s (n - length (t ∷ ts)) t (t ∷ ts) ts st >>= (λ u. run s n ts u)
