-- One module linked of builds, as a value: which items of each, and in which order.
use Rattle.std.specs.Prelude.{◌*◌, ◌++◌, ◌&&◌, ◌||◌, ℕ, Bool, true, false, List, [], ◌∷◌, fold, map, reverse, Option, Some, None, option_map, bytes_eq, if◌then◌else◌}
use Rattle.std.specs.List.{flat_map, filter}
use Rattle.naga_oil_ir.specs.ModuleValue.{ModuleValue, FunctionValue}
use Rattle.naga_oil_ir.specs.Rows.{Text}
use Rattle.naga_oil_ir.specs.declared.names.ItemPlace.{ItemPlace}
use Rattle.naga_oil_ir.specs.declared.span.Span.{Span}
use Rattle.naga_oil_derive.specs.CopiedEntry.{make_module}
use Rattle.naga_oil_derive.specs.Derived.{Derived, nothing, cleared}
use Rattle.naga_oil_derive.specs.DerivedValue.{import_item, import_function_if_new, set_source}
use Rattle.naga_oil_words.specs.Texts.{in_order, texts, is_among}
use Rattle.naga_oil_imports.specs.Uses.{Import}
use Rattle.naga_oil_link.specs.BuiltModule.{BuiltModule, Builds}
use Rattle.naga_oil_link.specs.OwnPlaces.{OwnPlaces, is_own}
use Rattle.naga_oil_link.specs.Places.{places_of, name_at}
use Rattle.naga_oil_link.specs.declared.by_name.AskedItems.{AskedItems}
use Rattle.naga_oil_ir.specs.Spans.{span_stride}

-- ---- one build

-- the requested names; None requests all
abbrev pub Asked : Type 0
Asked = Option (List (List ℕ))

-- the decorated names of items
abbrev pub decorated_names : AskedItems → List (List ℕ)
decorated_names asked = map (λ item. item ++ asked.decoration.now) (texts asked.items.now)

-- the decorated names of the requested items, in byte order; None requests all
abbrev pub asked_names : Option AskedItems → Asked
asked_names asked = option_map (λ a. in_order (decorated_names a)) asked

-- whether there is a name, and it passes a test
abbrev pub passes : (List ℕ → Bool) → Text → Bool
passes test None = false
passes test (Some name) = test name

-- whether an item with this name, if there is one, is requested
abbrev pub is_wanted : Asked → Text → Bool
is_wanted None name = true
is_wanted (Some names) name = passes (is_among names) name

-- the functions of a build that override others
abbrev pub overriding_names : BuiltModule → List (List ℕ)
overriding_names b = flat_map (λ e. e.1) b.overriding

-- whether the item at a place is linked: it is requested, and own
abbrev pub links_place : OwnPlaces → ModuleValue → Asked → ItemPlace → Bool
links_place own m asked p = is_wanted asked (name_at m p) && is_own own p

-- whether a function with this name is wanted: it is requested, or overrides another
abbrev pub is_wanted_function : BuiltModule → Asked → Text → Bool
is_wanted_function b asked name = is_wanted asked name || passes (is_among (overriding_names b)) name

-- whether a function is linked: it is wanted, and the build owns it
abbrev pub links_function : BuiltModule → Asked → FunctionValue × Span → Bool
links_function b asked f = is_wanted_function b asked f.0.name && passes (is_among b.functions) f.0.name

-- the requested types, constants, overrides and globals of a module are linked
abbrev pub link_places : OwnPlaces → ModuleValue → Asked → Derived → Derived
link_places own m asked d = fold import_item d (filter (links_place own m asked) (places_of m))

-- a function is linked, unless one with its name was
abbrev pub link_function : Derived → FunctionValue × Span → Derived
link_function d f = import_function_if_new d f.0 f.1

-- the requested functions of a module are linked, and those that override others
abbrev pub link_functions : BuiltModule → ModuleValue → Asked → Derived → Derived
link_functions b m asked d = fold link_function d (filter (links_function b asked) m.functions)

-- the requested items of a module of a build are linked; spans count over the texts of all modules, one after another
abbrev pub link_source : BuiltModule → OwnPlaces → ModuleValue → Asked → Derived → Derived
link_source b own m asked d = cleared (link_functions b m asked (link_places own m asked (set_source d m (b.index * span_stride))))

-- the requested items of a build are linked, of its header or of its whole
unfoldable pub link_items : (of_headers : Bool) → BuiltModule → Asked → Derived → Derived
link_items of_headers b asked d = if of_headers then link_source b b.own_in_header b.header asked d else link_source b b.own_in_value b.value asked d

-- ---- imports

-- the decorated names of the items that an import requests from a build, in byte order
abbrev pub asked_of : Import → BuiltModule → Asked
asked_of i b = Some (in_order (map (λ item. item ++ b.decoration) i.items))

-- what is linked so far, and the names of the modules whose imports are linked
pub record LinkState : Type 0 where
  pub derived : Derived
  pub entered : List (List ℕ)

-- what an import requests from a build is linked
abbrev pub link_asked : (of_headers : Bool) → Import → BuiltModule → LinkState → LinkState
link_asked of_headers i b s = record s { derived = link_items of_headers b (asked_of i b) s.derived }

abbrev pub enter : List ℕ → LinkState → LinkState
enter name s = record s { entered = name ∷ s.entered }

-- the imports of a module are linked by f, once
abbrev pub link_within : (LinkState → Import → LinkState) → List ℕ × BuiltModule → LinkState → LinkState
link_within f e s = if is_among s.entered e.0 then s else fold f (enter e.0 s) e.1.imports

-- an import is linked from builds, the newest first: what the build with its name imports, from the builds before it, and then
-- what the import requests; an import that has no build is skipped
unfoldable pub link_import : (of_headers : Bool) → Builds → LinkState → Import → LinkState
link_import of_headers [] s i = s
link_import of_headers (e ∷ earlier) s i = if bytes_eq i.import e.0 then link_asked of_headers i e.1 (link_within (link_import of_headers earlier) e s) else link_import of_headers earlier s i

-- imports are linked one after another, from builds in the order of building
abbrev pub link_imports : (of_headers : Bool) → Builds → List Import → LinkState → LinkState
link_imports of_headers builds imports s = fold (link_import of_headers (reverse builds)) s imports

abbrev pub nothing_linked : LinkState
nothing_linked = record { derived = nothing; entered = [] }

-- ---- what is linked of builds

-- the header of imports: what they request from the headers of their builds
unfoldable pub link_header : Builds → List Import → ModuleValue
link_header builds imports = (link_imports true builds imports nothing_linked).derived.target

-- the whole of a build: all that it owns, after what it imports, with its entry points, whose spans are those of its own text
unfoldable pub link_whole : Builds → BuiltModule → ModuleValue
link_whole builds b = make_module (set_source (link_items false b None (link_imports false builds b.imports nothing_linked).derived) b.value 0)
