-- The module of a text of Mini, line by line.
use Rattle.std.specs.Prelude.{◌≡◌, ℕ, ◌+◌, min, Bool, ◌||◌, ◌==◌, if◌then◌else◌, List, [], ◌∷◌, ◌++◌, length, map, Option, Some, None, unwrap_or, Result, Ok, Err, codes, bytes_eq, nat_eq}
use Rattle.std.specs.List.{starts_with, list_any, slice_split, position_or_len, before_first, after_first}
use Rattle.std.specs.Str.{trim_start}
use Rattle.std.specs.Str.Lines.{strip_carriage_return}
use Rattle.naga_oil_words.specs.Bytes.{newline}
use Rattle.naga_oil_ir.specs.Rows.{Row, row, TypeKind, ConstantKind, GlobalKind}
use Rattle.naga_oil_ir.specs.ModuleValue.{ModuleValue, FunctionValue, ArgumentValue, argument_value, EntryValue, no_items, module_value}
use Rattle.naga_oil_ir.specs.Backend.{FaultValue}
use Rattle.naga_oil_ir.specs.Spans.{undefined, u32_max}
use Rattle.naga_oil_ir.specs.declared.module.FunctionArgument.{FunctionArgument}
use Rattle.naga_oil_ir.specs.declared.module.FunctionResult.{FunctionResult}
use Rattle.naga_oil_ir.specs.declared.names.ItemPlace.TheVariants.{TypeItem, ExpressionItem}
use Rattle.naga_oil_ir.specs.declared.span.Span.{Span}
use Rattle.naga_oil_mini_symbols.specs.Refused.{LineFault, not_understood, message, understood, ◌>>◌}
use Rattle.naga_oil_mini_symbols.specs.Symbols.{Symbol, name, opens, number, equals, comma, closes, symbols}
use Rattle.naga_oil_words.specs.Marks.{is_within}
use Rattle.naga_oil_mini_front.specs.Making.{Scope, Inside, made, literal}
use Rattle.naga_oil_mini_front.specs.declared.reader.Reader.{Reader}

-- ---- items
-- the one type
abbrev pub scalar : Row
scalar = row (TypeKind 0) None (Some 1 ∷ []) [] []

abbrev pub types : List (Row × Span)
types = (scalar, undefined) ∷ []

-- the module of no lines
abbrev pub start : ModuleValue
start = record no_items { types = types }

abbrev pub name_of : Option (List ℕ) → List ℕ
name_of n = unwrap_or n []

-- the names of a module's constants, globals and functions
abbrev pub row_names : List (Row × Span) → List (List ℕ)
row_names rs = map (λ e. name_of e.0.label.name) rs

abbrev pub constant_names : ModuleValue → List (List ℕ)
constant_names m = row_names m.constants

abbrev pub global_names : ModuleValue → List (List ℕ)
global_names m = row_names m.global_variables

abbrev pub function_names : ModuleValue → List (List ℕ)
function_names m = map (λ e. name_of e.0.name) m.functions

abbrev pub scope : ModuleValue → List (List ℕ) → Scope
scope m ps = record { parameters = ps; constants = constant_names m; globals = global_names m; functions = function_names m }

-- a constant, whose number is the next global expression
abbrev pub with_constant : List ℕ → ℕ → Span → ModuleValue → ModuleValue
with_constant n v at m = record m {
  global_expressions = m.global_expressions ++ (literal v, at) ∷ [];
  constants = m.constants ++ (row ConstantKind (Some n) [] [] (Some (TypeItem 0) ∷ Some (ExpressionItem (length m.global_expressions)) ∷ []), at) ∷ [];
}

-- a global of space 1 without a binding, whose number is the next global expression
abbrev pub with_global : List ℕ → ℕ → Span → ModuleValue → ModuleValue
with_global n v at m = record m {
  global_expressions = m.global_expressions ++ (literal v, at) ∷ [];
  global_variables = m.global_variables ++ (row GlobalKind (Some n) (Some 1 ∷ None ∷ []) [] (Some (TypeItem 0) ∷ Some (ExpressionItem (length m.global_expressions)) ∷ []), at) ∷ [];
}

abbrev pub argument : List ℕ → ArgumentValue
argument p = record { name = Some p; ty = 0; binding = None }

abbrev pub arguments : List (List ℕ) → List ArgumentValue
arguments ps = map argument ps

abbrev pub outcome : Option FunctionResult
outcome = Some (record { ty = 0; binding = None })

-- a function with a name, parameters and an inside
abbrev pub function_of : List ℕ → List (List ℕ) → Inside → FunctionValue
function_of n ps b = record { name = Some n; arguments = arguments ps; result = outcome; local_variables = b.locals; expressions = b.expressions; named_expressions = []; body = b.body; diagnostic_filter_leaf = None }

-- the function with a name and parameters, by the end of its line
abbrev pub function : List ℕ → List (List ℕ) → List Symbol → Span → ModuleValue → Result FunctionValue LineFault
function n ps xs at m = made (scope m ps) at xs >> λ b. Ok (function_of n ps b)

abbrev pub with_function : FunctionValue → Span → ModuleValue → ModuleValue
with_function f at m = record m { functions = m.functions ++ (f, at) ∷ [] }

-- an entry point with a name and a function
abbrev pub entry_of : List ℕ → FunctionValue → EntryValue
entry_of n f = record { name = n; stage = 2; early_depth_test = None; workgroup_size = 1 ∷ 1 ∷ 1 ∷ []; workgroup_size_overrides = None; function = f; mesh_info = None; task_payload = None }

abbrev pub with_entry_point : EntryValue → ModuleValue → ModuleValue
with_entry_point e m = record m { entry_points = m.entry_points ++ e ∷ [] }

-- ---- lines, each after its keyword
-- parameters joined by `,` and the `)` after them, and the rest
abbrev pub parameters_from : List Symbol → Result (List (List ℕ) × List Symbol) LineFault
parameters_from (name p ∷ closes ∷ ss) = Ok (p ∷ [], ss)
parameters_from (name p ∷ comma ∷ ss) = parameters_from ss >> λ r. Ok (p ∷ r.0, r.1)
parameters_from ss = Err not_understood

-- parameters and a `)`, or the `)` alone
abbrev pub read_parameters : List Symbol → Result (List (List ℕ) × List Symbol) LineFault
read_parameters (closes ∷ ss) = Ok ([], ss)
read_parameters ss = parameters_from ss

-- `NAME = INT`
abbrev pub constant_line : List Symbol → Span → ModuleValue → Result ModuleValue LineFault
constant_line (name n ∷ equals ∷ number v ∷ []) at m = Ok (with_constant n v at m)
constant_line xs at m = Err not_understood

abbrev pub global_line : List Symbol → Span → ModuleValue → Result ModuleValue LineFault
global_line (name n ∷ equals ∷ number v ∷ []) at m = Ok (with_global n v at m)
global_line xs at m = Err not_understood

-- the function of a name and the symbols after its `(`
abbrev pub declared : List ℕ → List Symbol → Span → ModuleValue → Result FunctionValue LineFault
declared n xs at m = read_parameters xs >> λ p. function n p.0 p.1 at m

-- `NAME(P, ..) = EXPR`, `NAME(P, ..) with V = INIT, .. = EXPR` and `NAME(P, ..)`
abbrev pub function_line : List Symbol → Span → ModuleValue → Result ModuleValue LineFault
function_line (opens n ∷ xs) at m = declared n xs at m >> λ f. Ok (with_function f at m)
function_line xs at m = Err not_understood

-- `NAME = EXPR` and `NAME with V = INIT, .. = EXPR`
abbrev pub entry_line : List Symbol → Span → ModuleValue → Result ModuleValue LineFault
entry_line (name n ∷ x ∷ xs) at m = function n [] (x ∷ xs) at m >> λ f. Ok (with_entry_point (entry_of n f) m)
entry_line xs at m = Err not_understood

-- a module with the item of a line's symbols added
abbrev pub with_item : List ℕ → List Symbol → Span → ModuleValue → Result ModuleValue LineFault
with_item k xs at m =
    if bytes_eq k (codes "const") then constant_line xs at m
    else (if bytes_eq k (codes "var") then global_line xs at m
    else (if bytes_eq k (codes "fn") then function_line xs at m
    else (if bytes_eq k (codes "entry") then entry_line xs at m else Err not_understood)))

abbrev pub with_symbols : Span → ModuleValue → List Symbol → Result ModuleValue LineFault
with_symbols at m (name k ∷ xs) = with_item k xs at m
with_symbols at m xs = Err not_understood

-- the texts that skipped lines begin with
abbrev pub marks : List (List ℕ)
marks = codes "#" ∷ codes "//" ∷ codes "enable " ∷ codes "requires " ∷ codes "diagnostic(" ∷ []

-- a line is skipped: it is blank, or its first text that isn't white space is one of the marks
abbrev pub is_skipped : List ℕ → Bool
is_skipped line = (length (trim_start line) == 0) || list_any (λ mark. starts_with nat_eq (trim_start line) mark) marks

-- the space before a `with` is missing, where the `with` is after a `)` and not after a name
abbrev pub lacks_space : List ℕ → Bool
lacks_space line = is_within (codes ")with") line

-- a module with the item of a line added
unfoldable pub with_line : List ℕ → Span → ModuleValue → Result ModuleValue LineFault
with_line line at m =
    if is_skipped line then Ok m
    else (if lacks_space line then Err not_understood else understood (symbols line) >> with_symbols at m)

-- ---- texts
-- a place in a text, capped at the largest u32
abbrev pub capped : ℕ → ℕ
capped k = min k u32_max

-- the span of a line that begins at a place
abbrev pub span_at : ℕ → List ℕ → Span
span_at at line = record { start = capped at; end = capped (at + length line) }

-- the lines of the parts between `\n`s, each with its place: a `\r` before a `\n` is no part of its line, but its
-- byte counts in the places after it, and an empty part after the last `\n` is no line
abbrev pub placed : ℕ → List (List ℕ) → List (ℕ × List ℕ)
placed at [] = []
placed at (part ∷ []) = if length part == 0 then [] else (at, part) ∷ []
placed at (part ∷ more ∷ parts) = (at, strip_carriage_return part) ∷ placed (at + length part + 1) (more ∷ parts)

-- the lines of a text whose first byte has a place
abbrev pub placed_lines : ℕ → List ℕ → List (ℕ × List ℕ)
placed_lines at text = placed at (slice_split (λ b. b == newline) text)

-- the error of a line: its span, with an empty text, and no notes
abbrev pub fault_at : Span → LineFault → FaultValue
fault_at at f = record { message = message f; spans = (at, []) ∷ []; notes = [] }

-- a module with the items of placed lines added, or the error of the first wrong line
abbrev pub with_lines : List (ℕ × List ℕ) → ModuleValue → Result ModuleValue FaultValue
with_lines [] m = Ok m
with_lines (l ∷ ls) m = elim (with_line l.1 (span_at l.0 l.1) m) [ Ok n ↦ with_lines ls n | Err f ↦ Err (fault_at (span_at l.0 l.1) f) ]

-- the module of a text
unfoldable pub parsed : List ℕ → Result ModuleValue FaultValue
parsed text = with_lines (placed_lines 0 text) start

-- ---- as the code has them
-- a text's first line and the rest after its end
abbrev pub first_line : List ℕ → List ℕ × List ℕ
first_line text =
    if position_or_len (λ b. b == newline) text == length text then (text, [])
    else (strip_carriage_return (before_first (λ b. b == newline) text), after_first (λ b. b == newline) text)

abbrev pub arguments_of : List FunctionArgument → List ArgumentValue
arguments_of xs = map argument_value xs

-- the names are those of the module
abbrev pub Knows : Reader → Type 0
Knows r =
    (r.constants ≡ constant_names (module_value r.module_))
    × (r.globals ≡ global_names (module_value r.module_))
    × (r.functions ≡ function_names (module_value r.module_))
