-- The text of a module: a line for each constant, global, function and entry point.
use Rattle.std.specs.Prelude.{ℕ, ◌+◌, Bool, false, ◌==◌, ◌&&◌, not, if◌then◌else◌, List, [], ◌∷◌, ◌++◌, length, map, reverse, drop, replicate, Option, Some, None, option_map, is_none, bytes_eq, codes}
use Rattle.std.specs.Fmt.{decimal}
use Rattle.std.specs.List.{flat_map, join_by}
use Rattle.naga_oil_ir.specs.Parts.{Parts}
use Rattle.naga_oil_ir.specs.Rows.{Row, constant_row, global_row, Kind, TypeKind}
use Rattle.naga_oil_ir.specs.Body.{Tokens}
use Rattle.naga_oil_ir.specs.ModuleValue.{ModuleValue, FunctionValue, function_value, ArgumentValue, LocalValue, EntryValue, SpecialValue}
use Rattle.naga_oil_ir.specs.Backend.{FaultValue}
use Rattle.naga_oil_ir.specs.declared.module.Function.{Function}
use Rattle.naga_oil_ir.specs.declared.module.FunctionResult.{FunctionResult}
use Rattle.naga_oil_ir.specs.declared.types.Constant.{Constant as ConstantItself}
use Rattle.naga_oil_ir.specs.declared.types.GlobalVariable.{GlobalVariable}
use Rattle.naga_oil_ir.specs.declared.names.ItemPlace.{ItemPlace}
use Rattle.naga_oil_ir.specs.declared.names.ItemPlace.TheVariants.{TypeItem, ExpressionItem}
use Rattle.naga_oil_ir.specs.declared.span.Span.{Span}
use Rattle.naga_oil_words.specs.OptionSteps.{◌>>=◌}
use Rattle.naga_oil_mini_symbols.specs.Symbols.{Symbol, name, opens, number, equals, plus, comma, closes, is_name}
use Rattle.naga_oil_mini_writer.specs.BodyReader.{shape_at, NamedInitialiser, context, end_of}
use Rattle.naga_oil_mini_writer.specs.Order.{anywhere, has_order}
use Rattle.naga_oil_mini_writer.specs.declared.body_reader.Shape.{Shape}
use Rattle.naga_oil_mini_writer.specs.declared.body_reader.Shape.TheVariants.{Number}
use Rattle.naga_oil_mini_writer.specs.declared.order.Items.{Items}
use Rattle.naga_oil_mini_writer.specs.declared.order.Room.{Room}

-- ---- symbols
abbrev pub symbol_text : Symbol → List ℕ
symbol_text (name n) = n
symbol_text (opens f) = f ++ codes "("
symbol_text (number k) = decimal k
symbol_text equals = codes " = "
symbol_text plus = codes " + "
symbol_text comma = codes ", "
symbol_text closes = codes ")"

abbrev pub symbols_text : List Symbol → List ℕ
symbols_text ss = flat_map symbol_text ss

-- ---- names
abbrev pub when : {A : Type 0} → Bool → A → Option A
when b x = if b then Some x else None

-- a name that can be written
abbrev pub valid_name : Option (List ℕ) → Option (List ℕ)
valid_name None = None
valid_name (Some n) = when (is_name n) n

abbrev pub cons_some : {A : Type 0} → Option A → Option (List A) → Option (List A)
cons_some o os = o >>= λ x. option_map (λ xs. x ∷ xs) os

-- a parameter has the one type and no binding
abbrev pub parameter_word : ArgumentValue → Option (List ℕ)
parameter_word a = if (a.ty == 0) && is_none a.binding then valid_name a.name else None

abbrev pub parameter_words : List ArgumentValue → Option (List (List ℕ))
parameter_words [] = Some []
parameter_words (a ∷ xs) = cons_some (parameter_word a) (parameter_words xs)

-- a local has the one type and an initialiser
abbrev pub local_word : LocalValue → Option NamedInitialiser
local_word l = if l.ty == 0 then (valid_name l.name >>= λ n. option_map (λ h. (n, h)) l.init) else None

abbrev pub local_words : List (LocalValue × Span) → Option (List NamedInitialiser)
local_words [] = Some []
local_words (l ∷ ls) = cons_some (local_word l.0) (local_words ls)

abbrev pub function_words : List (FunctionValue × Span) → Option (List (List ℕ))
function_words [] = Some []
function_words (f ∷ fs) = cons_some (valid_name f.0.name) (function_words fs)

-- ---- constants and globals
abbrev pub number_in : Shape → Option ℕ
number_in (Number n) = Some n
number_in s = None

-- the number at a place, if it is of the one type
abbrev pub number_at : List (Parts × Span) → (ty place : ℕ) → Option ℕ
number_at es ty h = if ty == 0 then number_in (shape_at es h) else None

-- the number of a constant or a global
abbrev pub item_number : List (Parts × Span) → List (Option ItemPlace) → Option ℕ
item_number es (Some (TypeItem t) ∷ Some (ExpressionItem h) ∷ []) = number_at es t h
item_number es ps = None

-- lines with the data of each
abbrev pub Lines : Type 0 → Type 0
Lines A = List ℕ × List A

-- lines after others
abbrev pub following : {A : Type 0} → Lines A → Lines A → Lines A
following a b = (a.0 ++ b.0, a.1 ++ b.1)

-- a line before others
abbrev pub before : {A : Type 0} → Option (List ℕ × A) → Option (Lines A) → Option (Lines A)
before l ls = l >>= λ x. option_map (following (x.0, x.1 ∷ [])) ls

-- a constant's line, and its name
abbrev pub constant_text : List (Parts × Span) → Row → Option (List ℕ × List ℕ)
constant_text es r = do
  n ← valid_name r.label.name
  v ← item_number es r.names
  Some (codes "const " ++ n ++ codes " = " ++ decimal v ++ 10 ∷ [], n)

abbrev pub constants_text : List (Parts × Span) → List (Row × Span) → Option (Lines (List ℕ))
constants_text es [] = Some ([], [])
constants_text es (c ∷ cs) = before (constant_text es c.0) (constants_text es cs)

-- a global has the space 1 and no binding
abbrev pub is_plain_global : List (Option ℕ) → Bool
is_plain_global (Some s ∷ None ∷ []) = s == 1
is_plain_global ns = false

-- a global's name and number
abbrev pub global_word : List (Parts × Span) → Row → Option (List ℕ × ℕ)
global_word es r = do
  n ← valid_name r.label.name
  plain ← when (is_plain_global r.label.plain) n
  v ← item_number es r.names
  Some (plain, v)

-- a global's line, and its name
abbrev pub global_text : List (Parts × Span) → Row → Option (List ℕ × List ℕ)
global_text es r = option_map (λ g. (codes "var " ++ g.0 ++ codes " = " ++ decimal g.1 ++ 10 ∷ [], g.0)) (global_word es r)

abbrev pub globals_text : List (Parts × Span) → List (Row × Span) → Option (Lines (List ℕ))
globals_text es [] = Some ([], [])
globals_text es (g ∷ gs) = before (global_text es g.0) (globals_text es gs)

-- ---- functions
abbrev pub is_empty : {A : Type 0} → List A → Bool
is_empty xs = length xs == 0

-- the result has the one type and no binding
abbrev pub is_plain_result : Option FunctionResult → Bool
is_plain_result None = false
is_plain_result (Some r) = (r.ty == 0) && is_none r.binding

-- a function has only what Mini can write
abbrev pub is_plain_function : FunctionValue → Bool
is_plain_function f = (is_plain_result f.result && is_empty f.named_expressions) && is_none f.diagnostic_filter_leaf

-- the text after the header of a function: `with` before locals, else `=`
abbrev pub opening : List NamedInitialiser → List ℕ
opening ls = if is_empty ls then codes " = " else codes " with "

-- locals and a sum, whose tokens are listed from the last on, and the line's room
abbrev pub end_text : Items → List (List ℕ) → FunctionValue → Tokens → Option (List ℕ × Room)
end_text i ps f ts = do
  ls ← local_words f.local_variables
  r ← end_of (context f.expressions ps ls i) ls ts
  Some (opening ls ++ symbols_text r.0 ++ 10 ∷ [], r.1)

-- the text after the header of a function, and the line's room: locals and a sum, or nothing for a stub, which has no locals
abbrev pub body_text : Items → List (List ℕ) → FunctionValue → Tokens → Option (List ℕ × Room)
body_text i ps f [] = when (is_empty f.local_variables) (10 ∷ [], anywhere)
body_text i ps f (t ∷ ts) = end_text i ps f (reverse (t ∷ ts))

unfoldable pub body_line : Items → List (List ℕ) → FunctionValue → Option (List ℕ × Room)
body_line i ps f = if is_plain_function f then body_text i ps f f.body else None

-- parameters joined by `, `
abbrev pub parameters_text : List (List ℕ) → List ℕ
parameters_text ps = join_by (λ p. p) (codes ", ") ps

abbrev pub header_text : List ℕ → List (List ℕ) → List ℕ
header_text n ps = codes "fn " ++ n ++ codes "(" ++ parameters_text ps ++ codes ")"

-- the names of the parameters that a body may use: none where there is no body
abbrev pub body_words : FunctionValue → Option (List (List ℕ))
body_words f = if is_empty f.body then Some [] else parameter_words f.arguments

-- a text and the parameters after it, or the header
abbrev pub with_parameters : List ℕ → List ArgumentValue → Option (List ℕ)
with_parameters text xs = option_map (λ ps. text ++ parameters_text ps) (parameter_words xs)

abbrev pub with_header : List ℕ → List ℕ → List ArgumentValue → Option (List ℕ)
with_header text n xs = option_map (λ ps. text ++ header_text n ps) (parameter_words xs)

-- a function's line and its room
unfoldable pub function_text : Items → FunctionValue → Option (List ℕ × Room)
function_text i f = do
  n ← valid_name f.name
  ps ← parameter_words f.arguments
  b ← body_line i ps f
  Some (header_text n ps ++ b.0, b.1)

abbrev pub functions_text : Items → List (FunctionValue × Span) → Option (Lines Room)
functions_text i [] = Some ([], [])
functions_text i (f ∷ fs) = before (function_text i f.0) (functions_text i fs)

-- the line of a function without body, which names no item
unfoldable pub stub_text : FunctionValue → Option (List ℕ)
stub_text f = do
  n ← valid_name f.name
  ps ← parameter_words f.arguments
  when (is_plain_function f && is_empty f.local_variables) (header_text n ps ++ 10 ∷ [])

-- a number of lines, after others
abbrev pub counted : List ℕ × ℕ → List ℕ × ℕ → List ℕ × ℕ
counted a b = (a.0 ++ b.0, a.1 + b.1)

-- a line before others
abbrev pub one_more : Option (List ℕ) → Option (List ℕ × ℕ) → Option (List ℕ × ℕ)
one_more l ls = l >>= λ t. option_map (counted (t, 1)) ls

-- the lines of the stubs before the first function with a body, and their number
abbrev pub stubs_text : List (FunctionValue × Span) → Option (List ℕ × ℕ)
stubs_text [] = Some ([], 0)
stubs_text (f ∷ fs) = if is_empty f.0.body then one_more (stub_text f.0) (stubs_text fs) else Some ([], 0)

-- the lines of functions, after a number of lines that name nothing
abbrev pub functions_after : Items → ℕ → List (FunctionValue × Span) → Option (Lines Room)
functions_after i n fs = option_map (following ([], replicate n anywhere)) (functions_text i fs)

-- ---- entry points
abbrev pub is_ones : List ℕ → Bool
is_ones ns = bytes_eq ns (1 ∷ 1 ∷ 1 ∷ [])

-- an entry point has only what Mini can write, and a body
abbrev pub is_plain_entry : EntryValue → Bool
is_plain_entry e =
    ((((((is_empty e.function.arguments && not (is_empty e.function.body)) && (e.stage == 2)) && is_none e.early_depth_test) && is_ones e.workgroup_size) && is_none e.workgroup_size_overrides)
    && is_none e.mesh_info) && is_none e.task_payload

-- an entry point's line and its room; its function has its name
unfoldable pub entry_text : Items → EntryValue → Option (List ℕ × Room)
entry_text i e = do
  n ← valid_name e.function.name
  same ← when (bytes_eq n e.name && is_plain_entry e) n
  b ← body_line i [] e.function
  Some (codes "entry " ++ same ++ b.0, b.1)

abbrev pub entries_text : Items → List EntryValue → Option (Lines Room)
entries_text i [] = Some ([], [])
entries_text i (e ∷ es) = before (entry_text i e) (entries_text i es)

-- ---- modules
abbrev pub is_scalar_kind : Kind → Bool
is_scalar_kind (TypeKind k) = k == 0
is_scalar_kind k = false

abbrev pub is_one : List (Option ℕ) → Bool
is_one (Some n ∷ []) = n == 1
is_one ns = false

-- the one type
abbrev pub is_scalar : Row → Bool
is_scalar r = (is_none r.label.name && is_scalar_kind r.label.kind) && is_one r.label.plain

-- the module has the one type, or neither a type nor anything that names one
abbrev pub fits_types : Bool → List (Row × Span) → Bool
fits_types b [] = b
fits_types b (t ∷ []) = is_scalar t.0
fits_types b (t ∷ u ∷ ts) = false

abbrev pub has_type : ModuleValue → Bool
has_type m = fits_types (((is_empty m.constants && is_empty m.global_variables) && is_empty m.functions) && is_empty m.entry_points) m.types

abbrev pub is_plain_special : SpecialValue → Bool
is_plain_special s = ((is_none s.ray_desc && is_none s.ray_intersection) && is_none s.ray_vertex_return) && is_empty s.predeclared_types

-- a module has only what Mini can write
abbrev pub is_plain_module : ModuleValue → Bool
is_plain_module m =
    ((((has_type m && is_plain_special m.special_types) && is_empty m.overrides) && is_empty m.diagnostic_filters) && is_none m.diagnostic_filter_leaf)
    && is_none m.doc_comments

-- the lines of constants and globals, and their names
abbrev pub begin_text : ModuleValue → Option (List ℕ × Items)
begin_text m = do
  cs ← constants_text m.global_expressions m.constants
  gs ← globals_text m.global_expressions m.global_variables
  Some (cs.0 ++ gs.0, record { constants = cs.1; globals = gs.1; functions = [] })

-- the lines and names of constants and globals, and the names of functions
unfoldable pub items_text : ModuleValue → Option (List ℕ × Items)
items_text m = do
  is ← begin_text m
  ns ← function_words m.functions
  Some (is.0, record is.1 { functions = ns })

-- the text of a module, if it has one: a line for each item, which have an order in which each name means its item
unfoldable pub module_text : ModuleValue → Option (List ℕ)
module_text m = do
  plain ← when (is_plain_module m) m
  cs ← items_text plain
  fs ← functions_text cs.1 plain.functions
  es ← entries_text cs.1 plain.entry_points
  when (has_order fs.1 es.1) ((cs.0 ++ fs.0) ++ es.0)

-- nothing is after the first `stubs` functions
abbrev pub ends_with_stubs : ModuleValue → ℕ → Bool
ends_with_stubs m n = (n == length m.functions) && is_empty m.entry_points

-- the lines after the first `stubs` functions
unfoldable pub rest_text : Items → ModuleValue → ℕ → Option (List ℕ)
rest_text i m n = do
  ns ← function_words m.functions
  fs ← functions_after (record i { functions = ns }) n (drop n m.functions)
  es ← entries_text (record i { functions = ns }) m.entry_points
  when (has_order fs.1 es.1) (fs.0 ++ es.0)

-- the fault of a module that has no text
abbrev pub not_in_mini : FaultValue
not_in_mini = record { message = codes "not in Mini"; spans = []; notes = [] }

-- ---- as the code has them
abbrev pub constant_rows : List (ConstantItself × Span) → List (Row × Span)
constant_rows cs = map (λ c. (constant_row c.0, c.1)) cs

abbrev pub global_rows : List (GlobalVariable × Span) → List (Row × Span)
global_rows gs = map (λ g. (global_row g.0, g.1)) gs

abbrev pub function_values : List (Function × Span) → List (FunctionValue × Span)
function_values fs = map (λ f. (function_value f.0, f.1)) fs
