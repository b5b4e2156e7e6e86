-- The items that a parsed module owns, and the names that they get.
use Rattle.std.specs.Prelude.{ℕ, ◌||◌, if◌then◌else◌, Bool, false, not, nat_lt, Some, None, option_map, unwrap_or, List, [], ◌∷◌, ◌++◌, fold, map, codes}
use Rattle.std.specs.List.{flat_map, filter_map}
use Rattle.naga_oil_ir.specs.ModuleValue.{ModuleValue, FunctionValue, EntryValue, ArgumentValue, function_value}
use Rattle.naga_oil_ir.specs.Rows.{Row, Text}
use Rattle.naga_oil_ir.specs.Spans.{undefined}
use Rattle.naga_oil_ir.specs.declared.module.Function.{Function}
use Rattle.naga_oil_ir.specs.declared.module.FunctionResult.{FunctionResult}
use Rattle.naga_oil_ir.specs.declared.span.Span.{Span}
use Rattle.naga_oil_words.specs.Marks.{has_module_mark, with_decoration}
use Rattle.naga_oil_words.specs.Texts.{with_name, is_among}
use Rattle.naga_oil_derive.specs.World.{special_entries}
use Rattle.naga_oil_link.specs.BuiltModule.{BuiltModule}
use Rattle.naga_oil_link.specs.ByName.{places_where}
use Rattle.naga_oil_link.specs.OwnPlaces.{OwnPlaces}
use Rattle.naga_oil_link.specs.Places.{name_in}

-- ---- names

-- names with one more, decorated, if it is owned
abbrev pub with_owned_name : (decoration : List ℕ) → List (List ℕ) → List ℕ → List (List ℕ)
with_owned_name d names n = if has_module_mark n then names else with_name names (n ++ d)

-- names with one more, decorated, if there is a name and it is owned
abbrev pub with_owned : (decoration : List ℕ) → List (List ℕ) → Text → List (List ℕ)
with_owned d names None = names
with_owned d names (Some n) = with_owned_name d names n

-- names with one more, if there is one
abbrev pub with_text : List (List ℕ) → Text → List (List ℕ)
with_text names None = names
with_text names (Some n) = with_name names n

-- ---- items

-- the rows of an arena's items, or its functions, with their spans
abbrev pub rows_by : {T : Type 0} → (row : T → Row) → List (T × Span) → List (Row × Span)
rows_by row es = map (λ e. (row e.0, e.1)) es

abbrev pub function_values : List (Function × Span) → List (FunctionValue × Span)
function_values es = map (λ e. (function_value e.0, e.1)) es

-- an item with its name decorated, if it is owned
abbrev pub owned_row : (decoration : List ℕ) → Row → Row
owned_row d r = record r { label = record r.label { name = option_map (with_decoration d) r.label.name } }

abbrev pub owned_item : (decoration : List ℕ) → Row × Span → Row × Span
owned_item d e = (owned_row d e.0, e.1)

-- a function with its name decorated, if it is owned
abbrev pub owned_function : (decoration : List ℕ) → FunctionValue × Span → FunctionValue × Span
owned_function d e = (record e.0 { name = option_map (with_decoration d) e.0.name }, e.1)

-- the names of items, and of functions
abbrev pub item_names : List (Row × Span) → List Text
item_names es = map (λ e. e.0.label.name) es

abbrev pub function_texts : List (FunctionValue × Span) → List Text
function_texts es = map (λ e. e.0.name) es

-- a module whose own constants, overrides, globals and functions have the decoration
abbrev pub decorated_items : (decoration : List ℕ) → ModuleValue → ModuleValue
decorated_items d m = record m {
  constants = map (owned_item d) m.constants;
  overrides = map (owned_item d) m.overrides;
  global_variables = map (owned_item d) m.global_variables;
  functions = map (owned_function d) m.functions;
}

-- ---- which items are own

-- the names of the special types
abbrev pub special_names : ModuleValue → List (List ℕ)
special_names m = filter_map (λ e. name_in m.types e.1) (special_entries m.special_types)

-- whether an item with this name, if there is one, is own: the name has no mark
abbrev pub is_own_name : Text → Bool
is_own_name None = false
is_own_name (Some n) = not (has_module_mark n)

-- whether a type with this name, if there is one, is own: the name has no mark, and is not that of a special type
abbrev pub is_own_type : ModuleValue → Text → Bool
is_own_type m None = false
is_own_type m (Some n) = not (is_among (special_names m) n || has_module_mark n)

-- the places of the own types, constants, overrides and globals
abbrev pub own_places : ModuleValue → OwnPlaces
own_places m = record {
  types = places_where (is_own_type m) (item_names m.types);
  constants = places_where is_own_name (item_names m.constants);
  overrides = places_where is_own_name (item_names m.overrides);
  globals = places_where is_own_name (item_names m.global_variables);
}

-- names with that of a type, decorated, if the type is own
abbrev pub with_own_type : ModuleValue → (decoration : List ℕ) → List (List ℕ) → Text → List (List ℕ)
with_own_type m d names n = if is_own_type m n then with_text names (option_map (λ t. t ++ d) n) else names

-- a build that owns the items of a module, by their decorated names
abbrev pub owning : ModuleValue → BuiltModule → BuiltModule
owning m b = record b {
  types = fold (with_own_type m b.decoration) b.types (item_names m.types);
  constants = fold (with_owned b.decoration) b.constants (item_names m.constants);
  pipeline_overrides = fold (with_owned b.decoration) b.pipeline_overrides (item_names m.overrides);
  globals = fold (with_owned b.decoration) b.globals (item_names m.global_variables);
  functions = fold (with_owned b.decoration) b.functions (function_texts m.functions);
}

-- ---- entry points as functions

-- the name of a function, or main
abbrev pub name_or_main : Text → List ℕ
name_or_main n = unwrap_or n (codes "main")

-- an argument and a result without binding
abbrev pub unbound_argument : ArgumentValue → ArgumentValue
unbound_argument a = record a { binding = None }

abbrev pub unbound_result : FunctionResult → FunctionResult
unbound_result r = record r { binding = None }

-- the name of an entry point as a function
abbrev pub demoted_name : (decoration : List ℕ) → EntryValue → List ℕ
demoted_name d e = name_or_main e.function.name ++ d

-- the function of an entry point, decorated and without bindings
abbrev pub demoted_function : (decoration : List ℕ) → EntryValue → FunctionValue
demoted_function d e = record e.function {
  name = Some (demoted_name d e);
  arguments = map unbound_argument e.function.arguments;
  result = option_map unbound_result e.function.result;
}

-- the names of functions, of those that have one
abbrev pub function_names : List (FunctionValue × Span) → List (List ℕ)
function_names fs = filter_map (λ e. e.0.name) fs

-- the function of an entry point, with no span, unless its name is among these
abbrev pub demoted : (decoration : List ℕ) → (names : List (List ℕ)) → EntryValue → List (FunctionValue × Span)
demoted d names e = if is_among names (demoted_name d e) then [] else (demoted_function d e, undefined) ∷ []

-- the functions that the entry points of a module become, except those whose names a function of the module has
abbrev pub demotable : (decoration : List ℕ) → ModuleValue → List (FunctionValue × Span)
demotable d m = flat_map (demoted d (function_names m.functions)) m.entry_points

-- a module with these functions after its own, and without entry points
abbrev pub with_demoted : List (FunctionValue × Span) → ModuleValue → ModuleValue
with_demoted fs m = record m { functions = m.functions ++ fs; entry_points = [] }

-- a build that also owns these functions
abbrev pub owning_demoted : List (FunctionValue × Span) → BuiltModule → BuiltModule
owning_demoted fs b = record b { functions = fold with_name b.functions (function_names fs) }

-- ---- all of it

-- a module with its own items decorated; if the module isn't the shader, whose index is 0, its entry points become functions
abbrev pub owned_module : (index : ℕ) → (decoration : List ℕ) → ModuleValue → ModuleValue
owned_module index d m = if nat_lt 0 index then with_demoted (demotable d (decorated_items d m)) (decorated_items d m) else decorated_items d m

-- a build that owns those items
abbrev pub owned_build : (index : ℕ) → ModuleValue → BuiltModule → BuiltModule
owned_build index m b = if nat_lt 0 index then owning_demoted (demotable b.decoration (decorated_items b.decoration m)) (owning m b) else owning m b
