-- Worked rows: which items of a build are linked, and whose imports.
use Rattle.std.specs.Prelude.{◌≡◌, refl, ℕ, Bool, Some, None, List, [], ◌∷◌, codes}
use Rattle.std.specs.List.{filter}
use Rattle.naga_oil_ir.specs.ModuleValue.{ModuleValue, FunctionValue, no_items}
use Rattle.naga_oil_ir.specs.Rows.{Row, ConstantKind, row}
use Rattle.naga_oil_ir.specs.declared.names.ItemPlace.TheVariants.{ConstantItem}
use Rattle.naga_oil_ir.specs.declared.span.Span.{Span}
use Rattle.naga_oil_derive.specs.Derived.{Derived}
use Rattle.naga_oil_words.specs.Texts.{in_order}
use Rattle.naga_oil_imports.specs.Uses.{Import}
use Rattle.naga_oil_link.specs.BuiltModule.{BuiltModule}
use Rattle.naga_oil_link.specs.Linked.{LinkState, asked_of, links_place, links_function, link_within, link_import}
use Rattle.naga_oil_link.specs.OwnPlaces.{OwnPlaces, nothing_own}
use Rattle.naga_oil_link.specs.Places.{places_of}

-- the span of an item that has no place in a text
abbrev no_span : Span
no_span = record { start = 0; end = 0 }

abbrev constant : List ℕ → Row × Span
constant name = (row ConstantKind (Some name) [] [] [], no_span)

abbrev function : List ℕ → FunctionValue × Span
function name = (
  record {
    name = Some name;
    arguments = [];
    result = None;
    local_variables = [];
    expressions = [];
    named_expressions = [];
    body = [];
    diagnostic_filter_leaf = None;
  },
  no_span,
)

-- a foreign constant, two own ones, a foreign function, and two own ones
abbrev value : ModuleValue
value = record no_items {
  constants = constant (codes "c") ∷ constant (codes "aM") ∷ constant (codes "bM") ∷ [];
  functions = function (codes "e") ∷ function (codes "f") ∷ function (codes "gM") ∷ [];
}

abbrev own : OwnPlaces
own = record nothing_own { constants = 1 ∷ 2 ∷ [] }

-- the build of a module with index 2, whose function f overrides another
abbrev build : BuiltModule
build = record {
  decoration = codes "M";
  imports = [];
  types = [];
  constants = codes "aM" ∷ codes "bM" ∷ [];
  pipeline_overrides = [];
  globals = [];
  functions = codes "f" ∷ codes "gM" ∷ [];
  virtuals = [];
  overriding = (codes "h", codes "f" ∷ []) ∷ [];
  value = value;
  header = no_items;
  own_in_value = own;
  own_in_header = nothing_own;
  offset = 0;
  index = 2;
}

abbrev import : Import
import = record { import = codes "m"; items = codes "c" ∷ codes "b" ∷ [] }

-- ---- one build

-- the requested items
asked_items : filter (links_place own value (asked_of import build)) (places_of value) ≡ ConstantItem 2 ∷ []
unfolding in_order
asked_items = refl

-- the function that overrides another
asked_functions : filter (links_function build (asked_of import build)) value.functions ≡ function (codes "f") ∷ []
unfolding in_order
asked_functions = refl

-- all owned items
all_items : filter (links_place own value None) (places_of value) ≡ ConstantItem 1 ∷ ConstantItem 2 ∷ []
all_items = refl

all_functions : filter (links_function build None) value.functions ≡ function (codes "f") ∷ function (codes "gM") ∷ []
all_functions = refl

-- ---- imports

-- states: what is linked, and the modules whose imports are
abbrev entered : Derived → List (List ℕ) → LinkState
entered d names = record { derived = d; entered = names }

entered_once : (f : LinkState → Import → LinkState) (d : Derived) → link_within f (codes "m", record build { imports = import ∷ [] }) (entered d (codes "m" ∷ [])) ≡ entered d (codes "m" ∷ [])
entered_once f d = refl

entered_first : (f : LinkState → Import → LinkState) (d : Derived) → link_within f (codes "m", record build { imports = import ∷ [] }) (entered d []) ≡ f (entered d (codes "m" ∷ [])) import
entered_first f d = refl

not_built : (of_headers : Bool) (s : LinkState) → link_import of_headers ((codes "n", build) ∷ []) s import ≡ s
unfolding link_import
not_built of_headers s = refl
