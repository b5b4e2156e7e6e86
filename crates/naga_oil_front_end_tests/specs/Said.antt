-- What a front end of tests says: types, functions and entry points.
use Rattle.std.specs.Prelude.{ℕ, List, [], ◌∷◌, Bool, true, false, Option, Some, None}
use Rattle.naga_oil_ir.specs.ModuleValue.{ModuleValue, FunctionValue, EntryValue, no_items}
use Rattle.naga_oil_ir.specs.Rows.{Row, Text, TypeKind, row}
use Rattle.naga_oil_ir.specs.Spans.{undefined}
use Rattle.naga_oil_ir.specs.declared.names.ItemPlace.TheVariants.{TypeItem}
use Rattle.naga_oil_ir.specs.declared.span.Span.{Span}

-- where the type and the function stand
abbrev pub place : Span
place = record { start = 1; end = 3 }

-- a struct of one member of the first type, or without one a scalar
abbrev pub type_said : List ℕ → Option (List ℕ) → Row
type_said name None = row (TypeKind 0) (Some name) (Some 2 ∷ []) [] []
type_said name (Some m) = row (TypeKind 10) (Some name) (Some 4 ∷ []) (record { name = Some m; binding = None; offset = 0 } ∷ []) (Some (TypeItem 0) ∷ [])

-- a vector, and the named type after it
abbrev pub types_said : List ℕ → Option (List ℕ) → List (Row × Span)
types_said name member = (row (TypeKind 1) None (Some 1 ∷ []) [] [], undefined) ∷ (type_said name member, place) ∷ []

-- a function of nothing
abbrev pub function_said : Text → FunctionValue
function_said name = record {
  name = name;
  arguments = [];
  result = None;
  local_variables = [];
  expressions = [];
  named_expressions = [];
  body = [];
  diagnostic_filter_leaf = None;
}

-- an entry point whose function has no name
abbrev pub entry_said : EntryValue
entry_said = record {
  name = [];
  stage = 2;
  early_depth_test = None;
  workgroup_size = 1 ∷ 1 ∷ 1 ∷ [];
  workgroup_size_overrides = None;
  function = function_said None;
  mesh_info = None;
  task_payload = None;
}

abbrev pub entries_said : Bool → List EntryValue
entries_said true = entry_said ∷ []
entries_said false = []

-- a module of a type, a function and, if requested, the entry point
abbrev pub said : List ℕ → Option (List ℕ) → List ℕ → Bool → ModuleValue
said ty member function is_entered = record no_items {
  types = types_said ty member;
  functions = (function_said (Some function), place) ∷ [];
  entry_points = entries_said is_entered;
}
