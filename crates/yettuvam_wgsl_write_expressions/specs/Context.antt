-- What writing knows of a module, and of where an expression stands.
use Rattle.std.specs.Prelude.{ℕ, if◌then◌else◌, Bool, List, [], ◌∷◌, map, Option, Some, None, slice_get, string_bytes, Result, Ok, Err}
use Rattle.naga_oil_ir.specs.Rows.{Row, type_row, constant_row, override_row, global_row}
use Rattle.naga_oil_ir.specs.declared.module.Function.{Function}
use Rattle.naga_oil_ir.specs.declared.module.FunctionResult.{FunctionResult}
use Rattle.naga_oil_ir.specs.declared.span.Span.{Span}
use Rattle.naga_oil_ir.specs.declared.types.Constant.{Constant}
use Rattle.naga_oil_ir.specs.declared.types.GlobalVariable.{GlobalVariable}
use Rattle.yettuvam_wgsl_names.specs.Table.{Name}
use Rattle.yettuvam_wgsl_pieces.specs.Pieces.{Piece, Word, Sign}
use Rattle.yettuvam_wgsl_pieces.specs.declared.sign.Sign.TheVariants as sign
use Rattle.yettuvam_wgsl_written.specs.Outcomes.{Outcome, ◌>>=◌}
use Rattle.yettuvam_wgsl_written_names.specs.Items.{ItemNames, names_of, texts}
use Rattle.yettuvam_wgsl_write_types.specs.Texts.{is_set}
use Rattle.yettuvam_wgsl_write_types.specs.Types.{Texts, state_of, type_rows, override_rows, row_at}
use Rattle.yettuvam_wgsl_write_expressions.specs.declared.context.Context.{Context as ContextByCode}
use Rattle.yettuvam_wgsl_write_expressions.specs.declared.context.Scope.{Scope as ScopeByCode}
use Rattle.yettuvam_wgsl_write_expressions.specs.declared.shapes.Shape.{Shape}

-- the items of a module, their names, and how its types are written
pub record Context : Type 0 where
  pub types : List (Row × Span)
  pub constants : List (Row × Span)
  pub overrides : List (Row × Span)
  pub globals : List (Row × Span)
  pub results : List (Option FunctionResult)
  pub names : ItemNames
  pub texts : Texts

abbrev pub constant_rows : List (Constant × Span) → List (Row × Span)
constant_rows xs = map (λ x. (constant_row x.0, x.1)) xs

abbrev pub global_rows : List (GlobalVariable × Span) → List (Row × Span)
global_rows xs = map (λ x. (global_row x.0, x.1)) xs

abbrev pub function_results : List (Function × Span) → List (Option FunctionResult)
function_results xs = map (λ x. x.0.result) xs

abbrev pub context_of : ContextByCode → Context
context_of c = record {
  types = type_rows c.of.now.types;
  constants = constant_rows c.of.now.constants;
  overrides = override_rows c.of.now.overrides;
  globals = global_rows c.of.now.global_variables;
  results = function_results c.of.now.functions;
  names = names_of c.names.now;
  texts = state_of c.types.items c.told.items;
}

-- the row of the type at a place, and of other items
abbrev pub type_at : Context → ℕ → Option Row
type_at c place = row_at c.types place

abbrev pub constant_at : Context → ℕ → Option Row
constant_at c place = row_at c.constants place

abbrev pub override_at : Context → ℕ → Option Row
override_at c place = row_at c.overrides place

abbrev pub global_at : Context → ℕ → Option Row
global_at c place = row_at c.globals place

abbrev pub result_by : Option (Option FunctionResult) → Option FunctionResult
result_by (Some r) = r
result_by None = None

-- the result of the function at a place
abbrev pub result_at : Context → ℕ → Option FunctionResult
result_at c place = result_by (slice_get c.results place)

-- a context, the names and types of a function's arguments, the names of its locals, the shapes of the earlier expressions,
-- and the span that a refusal has
pub record Scope : Type 0 where
  pub context : Context
  pub arguments : List Name
  pub locals : List (Option Name)
  pub argument_types : List ℕ
  pub shapes : List Shape
  pub span : Span

abbrev pub scope_of : ScopeByCode → Scope
scope_of s = record {
  context = context_of s.context.now;
  arguments = map string_bytes s.own.arguments.now;
  locals = texts s.own.locals.now;
  argument_types = map (λ a. a.ty) s.arguments.now;
  shapes = s.shapes.now;
  span = s.span;
}

-- ---- types

-- an empty text stands for what isn't written
abbrev pub filled : List Piece → Span → Outcome
filled [] span = Err span
filled (p ∷ ps) span = Ok (p ∷ ps)

abbrev pub type_by : Option (List Piece) → Span → Outcome
type_by (Some ps) span = filled ps span
type_by None span = Err span

-- the text at a place
abbrev pub text_in : List (List Piece) → ℕ → Span → Outcome
text_in ts ty span = type_by (slice_get ts ty) span

-- a type where it is used
abbrev pub type_text : Context → ℕ → Span → Outcome
type_text c ty span = text_in c.texts.types ty span

abbrev pub is_told : Context → ℕ → Bool
is_told c ty = is_set c.texts.told ty

-- `: TYPE`, if a declaration is written with the type
abbrev pub type_mark : Context → ℕ → Span → Outcome
type_mark c ty span = if is_told c ty then (type_text c ty span >>= (λ t. Ok (Sign sign.Colon ∷ t))) else Ok []

-- `NAME`, and `: TYPE` if a declaration is written with the type
unfoldable pub declared : Context → Name → ℕ → Span → Outcome
declared c name ty span = type_mark c ty span >>= (λ t. Ok (Word name ∷ t))
