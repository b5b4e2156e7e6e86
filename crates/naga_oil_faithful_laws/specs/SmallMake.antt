-- A small make: a front end that parses two texts, and the module made of them.
use Rattle.std.specs.Prelude.{ℕ, true, false, List, [], ◌∷◌, ◌++◌, Option, Some, None, Result, Ok, Err, codes, bytes_eq, if◌then◌else◌}
use Rattle.naga_oil_ir.specs.Kinds.{emit_head, call_head}
use Rattle.naga_oil_ir.specs.Backend.{FrontEnd, FaultValue}
use Rattle.naga_oil_ir.specs.Body.{Tokens}
use Rattle.naga_oil_ir.specs.ModuleValue.{ModuleValue, FunctionValue, EntryValue, ArgumentValue, LocalValue, SpecialValue, no_items}
use Rattle.naga_oil_ir.specs.Parts.{Parts, expr}
use Rattle.naga_oil_ir.specs.Rows.{Row, TypeKind, row}
use Rattle.naga_oil_ir.specs.Spans.{undefined}
use Rattle.naga_oil_ir.specs.declared.backend.Capabilities.{Capabilities}
use Rattle.naga_oil_ir.specs.declared.language.ShaderLanguage.TheVariants.{Wgsl}
use Rattle.naga_oil_ir.specs.declared.names.ItemPlace.TheVariants.{TypeItem}
use Rattle.naga_oil_ir.specs.declared.parts.Named.TheVariants.{Nothing, TypeOf, ArgumentAt}
use Rattle.naga_oil_ir.specs.declared.span.Span.{Span}
use Rattle.naga_oil_ir.specs.declared.tokens.Token.TheVariants.{At, Head, Absent, Use, Emitted, Callee}
use Rattle.naga_oil_lines.specs.Directives.{no_directives}
use Rattle.naga_oil_registry.specs.Registered.{Registered}
use Rattle.naga_oil_registry.specs.Descriptor.{ShaderSource, no_shader}
use Rattle.naga_oil_build.specs.Held.{Settings, settings}

-- ---- items

abbrev pub span : ℕ → ℕ → Span
span start end = record { start = start; end = end }

abbrev pub number : Row × Span
number = (row (TypeKind 0) None (Some 4 ∷ []) [] [], undefined)

-- a struct with one member, a number, whose type is the first
abbrev pub struct : List ℕ → Row × Span
struct name = (row (TypeKind 10) (Some name) (Some 4 ∷ []) (record { name = Some (codes "x"); binding = None; offset = 0 } ∷ []) (Some (TypeItem 0) ∷ []), undefined)

-- the special types of a ray and of its hit
abbrev pub specials : Option ℕ → Option ℕ → SpecialValue
specials ray hit = record { ray_desc = ray; ray_intersection = hit; ray_vertex_return = None; predeclared_types = [] }

-- ---- functions

-- an argument `ray` of a type
abbrev pub ray_of : ℕ → ArgumentValue
ray_of ty = record { name = Some (codes "ray"); ty = ty; binding = None }

abbrev pub function : List ℕ → List ArgumentValue → List (LocalValue × Span) → List (Parts × Span) → Tokens → FunctionValue
function name arguments locals expressions body = record {
  name = Some name;
  arguments = arguments;
  result = None;
  local_variables = locals;
  expressions = expressions;
  named_expressions = [];
  body = body;
  diagnostic_filter_leaf = None;
}

-- a local variable `s` of a type, with its initialiser
abbrev pub local_of : ℕ → ℕ → LocalValue × Span
local_of ty init = (record { name = Some (codes "s"); ty = ty; init = Some init }, undefined)

abbrev pub literal : ℕ → Parts × Span
literal bits = (expr 0 (0 ∷ bits ∷ []) Nothing [], undefined)

abbrev pub zero_of : ℕ → Parts × Span
zero_of ty = (expr 1 [] (TypeOf ty) [], undefined)

abbrev pub argument : Parts × Span
argument = (expr 6 [] (ArgumentAt 0) [], undefined)

abbrev pub negated : ℕ → Span → Parts × Span
negated operand at = (expr 22 (1 ∷ []) Nothing (Some operand ∷ []), at)

-- a statement has its place before it, as in each body that a front end's module has
abbrev pub kill : Tokens
kill = At undefined ∷ Head 7 ∷ []

-- a call with the first of the expressions
abbrev pub call_with_first : ℕ → Tokens
call_with_first callee = At undefined ∷ Head call_head ∷ Callee callee ∷ Use 0 ∷ Absent ∷ []

-- ---- names

-- the decoration of the items of `m`, the names of its functions, and of the one that overrides one of them
abbrev pub mark : List ℕ
mark = codes "X_naga_oil_mod_XNUX"

abbrev pub helper_name : List ℕ
helper_name = codes "h" ++ mark

abbrev pub base_name : List ℕ
base_name = codes "f" ++ mark

abbrev pub override_name : List ℕ
override_name = codes "fX_naga_oil_vrt_XNUX"

-- ---- the parses

-- the module `m`: a struct of its own, a function, and one with a local variable of the struct that calls it
abbrev pub helper : FunctionValue
helper = function (codes "h") [] [] [] kill

abbrev pub base : FunctionValue
base = function (codes "f") (ray_of 2 ∷ []) (local_of 1 1 ∷ []) (literal 9 ∷ zero_of 1 ∷ literal 7 ∷ negated 2 (span 5 8) ∷ []) (At (span 1 3) ∷ Head call_head ∷ Callee 0 ∷ Absent ∷ At (span 4 8) ∷ Head emit_head ∷ Emitted (3, 4) ∷ [])

abbrev pub module_parse : ModuleValue
module_parse = record no_items {
  types = number ∷ struct (codes "S") ∷ struct (codes "Ray") ∷ struct (codes "Hit") ∷ [];
  special_types = specials (Some 2) (Some 3);
  functions = (helper, undefined) ∷ (base, span 0 9) ∷ [];
}

-- the shader: the function that it imports, without a body, one that overrides it, and two entry points
abbrev pub stub : FunctionValue
stub = function base_name (ray_of 1 ∷ []) [] [] []

abbrev pub override_of : ℕ → FunctionValue
override_of callee = function override_name (ray_of 1 ∷ []) [] (argument ∷ []) (call_with_first callee)

abbrev pub entry : FunctionValue → EntryValue
entry f = record {
  name = codes "e";
  stage = 2;
  early_depth_test = None;
  workgroup_size = 1 ∷ 1 ∷ 1 ∷ [];
  workgroup_size_overrides = None;
  function = f;
  mesh_info = None;
  task_payload = None;
}

-- an entry point that has a zero, and one that has a result alone
abbrev pub first_entry : Tokens → EntryValue
first_entry body = entry (function (codes "a") [] [] (zero_of 1 ∷ []) body)

abbrev pub with_number : FunctionValue → FunctionValue
with_number f = record f { result = Some (record { ty = 0; binding = None }) }

abbrev pub second_entry : EntryValue
second_entry = entry (with_number (function (codes "b") [] [] [] kill))

abbrev pub shader_parse : ModuleValue
shader_parse = record no_items {
  types = number ∷ struct (codes "Ray") ∷ [];
  special_types = specials (Some 1) None;
  functions = (stub, undefined) ∷ (override_of 0, undefined) ∷ [];
  entry_points = first_entry (call_with_first 0) ∷ second_entry ∷ [];
}

-- ---- the make

abbrev pub module_text : List ℕ
module_text = codes "fn f() {}\n"

abbrev pub shader_text : List ℕ
shader_text = codes "         \n         fn fX_naga_oil_vrt_XNUX() {}\n"

abbrev pub not_read : FaultValue
not_read = record { message = []; spans = []; notes = [] }

-- the parse of one of the two texts
abbrev pub said : List ℕ → Result ModuleValue FaultValue
said text =
    if bytes_eq text module_text then Ok module_parse
    else if bytes_eq text shader_text then Ok shader_parse
    else Err not_read

-- a front end that parses the two texts, writes the empty text, and finds all modules valid
abbrev pub front : FrontEnd
front = record {
  parse = λ in_language text. said text;
  write = λ m in_language capabilities. Ok [];
  valid = λ m capabilities. Ok tt;
}

-- any function may be overridden
abbrev pub small_settings : Capabilities → Settings
small_settings capabilities = settings front capabilities false true

abbrev pub module_definition : Registered
module_definition = record {
  name = codes "m";
  source = codes "fn f() {}";
  language = Wgsl;
  file_path = [];
  defs = [];
  effective = [];
  imports = [];
  additional = [];
  directives = no_directives;
  index = 1;
}

abbrev pub registry : List Registered
registry = module_definition ∷ []

abbrev pub shader : ShaderSource
shader = record no_shader { source = codes "#import m\noverride fn m::f() {}\n" }

-- ---- the made module

-- what differs between the modules of the rows: the operand of an emitted expression, the type of an argument, the body of a called
-- function, the body of the first entry point, and the function that the overriding one calls
pub record Looks : Type 0 where
  pub operand : ℕ
  pub argument_type : ℕ
  pub helper_body : Tokens
  pub entry_body : Tokens
  pub callee : ℕ

-- the body of the module's function, with spans that count over all texts, as it calls a function
abbrev pub base_body_calling : (callee end : ℕ) → Tokens
base_body_calling callee end = At (span 2097153 2097155) ∷ Head call_head ∷ Callee callee ∷ Absent ∷ At (span 2097156 2097160) ∷ Head emit_head ∷ Emitted (2, end) ∷ []

abbrev pub base_body : Tokens
base_body = base_body_calling 0 3

abbrev pub base_copy : Looks → FunctionValue
base_copy l = function base_name (ray_of l.argument_type ∷ []) (local_of 3 0 ∷ []) (zero_of 3 ∷ literal 7 ∷ negated l.operand (span 2097157 2097160) ∷ []) base_body

abbrev pub made_with : Looks → ModuleValue
made_with l = record no_items {
  types = number ∷ struct (codes "Ray") ∷ struct (codes "Hit") ∷ struct (codes "S" ++ mark) ∷ [];
  special_types = specials (Some 1) (Some 2);
  functions = (function helper_name [] [] [] l.helper_body, undefined) ∷ (base_copy l, span 2097152 2097161) ∷ (override_of l.callee, undefined) ∷ [];
  entry_points = first_entry l.entry_body ∷ second_entry ∷ [];
}

-- the module that the small make answers
abbrev pub right : Looks
right = record { operand = 1; argument_type = 1; helper_body = kill; entry_body = call_with_first 2; callee = 1 }
