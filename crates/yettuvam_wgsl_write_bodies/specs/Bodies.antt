-- A body before its first token, and its whole text.
use Rattle.std.specs.Prelude.{ℕ, ◌-◌, List, [], ◌∷◌, ◌++◌, length, map, slice_get, Option, Some, None, option_map, unwrap_or, false, Ok}
use Rattle.naga_oil_ir.specs.Body.{Tokens}
use Rattle.naga_oil_ir.specs.ModuleValue.{FunctionValue, LocalValue}
use Rattle.naga_oil_ir.specs.Spans.{undefined}
use Rattle.naga_oil_ir.specs.declared.span.Span.{Span}
use Rattle.yettuvam_wgsl_counts.specs.declared.locals.Declared.{Declared}
use Rattle.yettuvam_wgsl_counts.specs.declared.locals.Declared.TheVariants.{AtTop}
use Rattle.yettuvam_wgsl_local_names.specs.LocalNames.{Names}
use Rattle.yettuvam_wgsl_pieces.specs.Pieces.{Sign}
use Rattle.yettuvam_wgsl_pieces.specs.declared.sign.Sign.TheVariants as sign
use Rattle.yettuvam_wgsl_uses.specs.Uses.{Uses}
use Rattle.yettuvam_wgsl_written.specs.Outcomes.{Outcome, ◌>>=◌}
use Rattle.yettuvam_wgsl_written.specs.Written.{Written}
use Rattle.yettuvam_wgsl_write_blocks.specs.Blocks as blocks
use Rattle.yettuvam_wgsl_write_blocks.specs.Parts.{simple_part, texts}
use Rattle.yettuvam_wgsl_write_blocks.specs.declared.parts.PartKind.TheVariants as kind
use Rattle.yettuvam_wgsl_write_expressions.specs.Context.{Context}
use Rattle.yettuvam_wgsl_write_globals.specs.Globals.{shapes}
use Rattle.yettuvam_wgsl_write_statements.specs.Declarations.{local}
use Rattle.yettuvam_wgsl_write_bodies.specs.Setting.{Setting, argument_types, local_name, local_type, scope}
use Rattle.yettuvam_wgsl_write_bodies.specs.Values.{first_values}
use Rattle.yettuvam_wgsl_write_bodies.specs.Writer.{Done, State, add, run}

-- ---- local variables that are declared before the first statement

abbrev pub init_in : Option (LocalValue × Span) → Option ℕ
init_in (Some v) = v.0.init
init_in None = None

abbrev pub local_init : FunctionValue → ℕ → Option ℕ
local_init f place = init_in (slice_get f.local_variables place)

abbrev pub local_span : FunctionValue → ℕ → Span
local_span f place = unwrap_or (option_map (λ v. v.1) (slice_get f.local_variables place)) undefined

-- `var NAME: TYPE`, with the value that the local variable has
abbrev pub declaration : Setting → List Written → ℕ → Outcome
declaration s known place =
    let f = s.function in
    local (scope s (local_span f place)) known (local_name s place) (local_type f place) (local_init f place) false

unfoldable pub declare_local : Setting → ℕ → State → Done
declare_local s place st =
    declaration s st.known place >>= (λ text. Ok (add (simple_part kind.Declaration text) st))

abbrev pub declare_any : Setting → ℕ → Declared → State → Done
declare_any s place AtTop st = declare_local s place st
declare_any s place _ st = Ok st

-- the last of n local variables
unfoldable pub declare_all : Setting → ℕ → List Declared → State → Done
declare_all s n [] st = Ok st
declare_all s n (d ∷ ds) st = declare_any s (n - length (d ∷ ds)) d st >>= (λ t. declare_all s n ds t)

abbrev pub declare_locals : Setting → State → Done
declare_locals s st = declare_all s (length s.uses.locals) s.uses.locals st

-- ---- the whole body

abbrev pub started : Setting → State
started s = record { blocks = blocks.started; known = first_values s; span = undefined }

unfoldable pub written : Setting → Tokens → Done
written s ts = declare_locals s (started s) >>= (λ st. run s (length ts) ts st)

-- the statements, and `}`
unfoldable pub text : Setting → Tokens → Outcome
text s ts = written s ts >>= (λ st. Ok (texts st.blocks.parts ++ Sign sign.RightBrace ∷ []))

abbrev pub local_types : FunctionValue → List ℕ
local_types f = map (λ v. v.0.ty) f.local_variables

-- the body of a function whose names and uses are given
unfoldable pub body : Context → FunctionValue → Names → Uses → Tokens → Outcome
body c f names uses ts = text record {
  context = c;
  function = f;
  names = names;
  uses = uses;
  shapes = shapes c (argument_types f.arguments) (local_types f) f.expressions;
} ts
