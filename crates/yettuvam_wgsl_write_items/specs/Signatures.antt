-- Functions and entry points up to their bodies.
use Rattle.std.specs.Prelude.{ℕ, ◌==◌, ◌&&◌, if◌then◌else◌, not, Bool, true, false, List, [], ◌∷◌, ◌++◌, map, String, string_bytes, Option, Some, None, codes, Ok, Err}
use Rattle.std.specs.declared.alloc.Global.{Global}
use Rattle.naga_oil_ir.specs.ModuleValue.{ArgumentValue, argument_value}
use Rattle.naga_oil_ir.specs.Spans.{undefined}
use Rattle.naga_oil_ir.specs.declared.module.EntryPoint.{EntryPoint}
use Rattle.naga_oil_ir.specs.declared.module.Function.{Function}
use Rattle.naga_oil_ir.specs.declared.module.FunctionArgument.{FunctionArgument}
use Rattle.naga_oil_ir.specs.declared.module.FunctionResult.{FunctionResult}
use Rattle.naga_oil_ir.specs.declared.span.Span.{Span}
use Rattle.yettuvam_wgsl_names.specs.Table.{Name}
use Rattle.yettuvam_wgsl_pieces.specs.Pieces.{Piece, Word, Number, Sign}
use Rattle.yettuvam_wgsl_pieces.specs.declared.sign.Sign.TheVariants as sign
use Rattle.yettuvam_wgsl_written.specs.Attributes.{attribute, binding}
use Rattle.yettuvam_wgsl_written.specs.Outcomes.{Outcome, ◌>>=◌, after}
use Rattle.yettuvam_wgsl_written.specs.Written.{Written, value_pieces, sign_if}
use Rattle.yettuvam_wgsl_write_expressions.specs.Context.{Context, type_text}
use Rattle.yettuvam_wgsl_write_expressions.specs.Operands.{operand}
use Rattle.yettuvam_wgsl_write_items.specs.Text.{Inputs}

-- ---- functions

-- `NAME: TYPE`
unfoldable pub named_parameter : Context → Name → ℕ → Span → Outcome
named_parameter c name ty span = type_text c ty span >>= (λ t. Ok (Word name ∷ Sign sign.Colon ∷ t))

-- a parameter with its attributes, and a comma unless it is the last one
unfoldable pub parameter : Context → Name → ArgumentValue → Bool → Span → Outcome
parameter c name a is_last span =
    binding a.binding span >>= (λ b. named_parameter c name a.ty span
    >>= (λ p. Ok (b ++ (p ++ sign_if (not is_last) sign.Comma))))

abbrev pub is_empty : List Name → Bool
is_empty [] = true
is_empty (n ∷ ns) = false

-- the parameters after other pieces, each with its name
unfoldable pub each_parameter : Context → Span → List Piece → List Name → List ArgumentValue → Outcome
each_parameter c span s names [] = Ok s
each_parameter c span s [] (a ∷ args) = Err span
each_parameter c span s (n ∷ names) (a ∷ args) =
    after s (parameter c n a (is_empty names) span) >>= (λ t. each_parameter c span t names args)

abbrev pub argument_values : List FunctionArgument → List ArgumentValue
argument_values xs = map argument_value xs

-- the parameters of a function, after other pieces
abbrev pub put_parameters : Context → List (String Global) → Function → Span → List Piece → Outcome
put_parameters c names f span s =
    each_parameter c span s (map string_bytes names) (argument_values f.arguments.items)

-- `-> TYPE`
unfoldable pub result_type : Context → Option FunctionResult → Span → Outcome
result_type c None span = Ok []
result_type c (Some r) span =
    binding r.binding span >>= (λ b. type_text c r.ty span >>= (λ t. Ok (Sign sign.Arrow ∷ (b ++ t))))

-- what the head of a function depends on: its name, its arguments with their names, and its result
pub record Head : Type 0 where
  pub name : Name
  pub names : List Name
  pub arguments : List ArgumentValue
  pub result : Option FunctionResult

abbrev pub head_of : Name → List (String Global) → Function → Head
head_of name names f = record {
  name = name;
  names = map string_bytes names;
  arguments = argument_values f.arguments.items;
  result = f.result;
}

-- `fn NAME(`
abbrev pub head_start : Name → List Piece
head_start name = Sign sign.FnWord ∷ Word name ∷ Sign sign.LeftParen ∷ []

-- `fn NAME(PARAMETERS) -> TYPE {`, after other pieces
unfoldable pub put_head : Context → Head → Span → List Piece → Outcome
put_head c h span s =
    each_parameter c span (s ++ head_start h.name) h.names h.arguments
    >>= (λ t. after (t ++ Sign sign.RightParen ∷ []) (result_type c h.result span)
    >>= (λ u. Ok (u ++ Sign sign.LeftBrace ∷ [])))

-- ---- entry points

-- a size of a workgroup, and the global expression in place of it
abbrev pub Size : Type 0
Size = ℕ × Option ℕ

abbrev pub size_by : List Written → ℕ → Option ℕ → Outcome
size_by known size (Some h) = operand known h undefined >>= (λ w. Ok (value_pieces w true))
size_by known size None = Ok (Number size ∷ [])

-- a size: a number, or the value of a global expression
unfoldable pub dimension : List Written → Size → Outcome
dimension known size = size_by known size.0 size.1

-- a further size
unfoldable pub further : List Written → Size → Outcome
further known size = dimension known size >>= (λ d. Ok (Sign sign.Comma ∷ d))

-- the number of sizes that are written: the last ones may be left out if they are 1
abbrev pub has_second : (y z : ℕ) → Bool
has_second y z = not ((y == 1) && (z == 1))

abbrev pub has_third : ℕ → Bool
has_third z = not (z == 1)

abbrev pub if_needed : Bool → Outcome → Outcome
if_needed true o = o
if_needed false o = Ok []

-- three sizes
abbrev pub three_sizes : List Written → (x y z : Size) → Outcome
three_sizes known x y z =
    dimension known x >>= (λ p. if_needed (has_second y.0 z.0) (further known y)
    >>= (λ q. if_needed (has_third z.0) (further known z) >>= (λ r. Ok (p ++ (q ++ r)))))

abbrev pub valued_sizes : List Written → (x y z : ℕ) → List (Option ℕ) → Outcome
valued_sizes known x y z (a ∷ b ∷ c ∷ []) = three_sizes known (x, a) (y, b) (z, c)
valued_sizes known x y z _ = Err undefined

-- sizes with the values in place of some of them
unfoldable pub sizes : List Written → List ℕ → List (Option ℕ) → Outcome
sizes known (x ∷ y ∷ z ∷ []) vs = valued_sizes known x y z vs
sizes known _ vs = Err undefined

-- what the attributes of an entry point depend on: the code of its stage, its sizes, and values
-- in place of them
pub record Stage : Type 0 where
  pub code : ℕ
  pub numbers : List ℕ
  pub replaced : Option (List (Option ℕ))

abbrev pub stage_of : EntryPoint → Stage
stage_of e = record { code = e.stage; numbers = e.workgroup_size; replaced = e.workgroup_size_overrides }

abbrev pub values_by : Option (List (Option ℕ)) → List (Option ℕ)
values_by (Some vs) = vs
values_by None = None ∷ None ∷ None ∷ []

-- `@workgroup_size(`
abbrev pub size_start : List Piece
size_start = attribute (codes "workgroup_size") ++ Sign sign.LeftParen ∷ []

-- `@workgroup_size(..)`
unfoldable pub workgroup_size : List Written → Stage → Outcome
workgroup_size known of =
    sizes known of.numbers (values_by of.replaced)
    >>= (λ ps. Ok (size_start ++ (ps ++ Sign sign.RightParen ∷ [])))

-- the stages of entry points
abbrev pub vertex_stage : ℕ
vertex_stage = 0

abbrev pub fragment_stage : ℕ
fragment_stage = 1

abbrev pub compute_stage : ℕ
compute_stage = 2

-- the attributes of an entry point
unfoldable pub stage : List Written → Stage → Outcome
stage known of =
    if of.code == vertex_stage then Ok (attribute (codes "vertex"))
    else (if of.code == fragment_stage then Ok (attribute (codes "fragment"))
    else (if of.code == compute_stage then after (attribute (codes "compute")) (workgroup_size known of)
    else Err undefined))

-- what the head of an entry point depends on
pub record Entry : Type 0 where
  pub attributes : Stage
  pub head : Head

abbrev pub entry_of : Name → List (String Global) → EntryPoint → Entry
entry_of name names e = record { attributes = stage_of e; head = head_of name names e.function }

-- an entry point up to the `{` of its body, after other pieces
unfoldable pub put_entry_head : Inputs → Entry → List Piece → Outcome
put_entry_head i e s = after s (stage i.known e.attributes) >>= (λ t. put_head i.context e.head undefined t)
