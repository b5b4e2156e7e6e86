-- Worked rows: the order of first reach, and what imports request and reach.
use Rattle.std.specs.Prelude.{◌≡◌, refl, ℕ, List, [], ◌∷◌, map, Some, None, codes}
use Rattle.naga_oil_ir.specs.Body.{Tokens}
use Rattle.naga_oil_ir.specs.ModuleValue.{ModuleValue, FunctionValue, no_items}
use Rattle.naga_oil_ir.specs.Rows.{Text}
use Rattle.naga_oil_ir.specs.Spans.{undefined}
use Rattle.naga_oil_ir.specs.declared.span.Span.{Span}
use Rattle.naga_oil_ir.specs.declared.tokens.Token.TheVariants.{Callee}
use Rattle.naga_oil_imports.specs.Uses.{Import}
use Rattle.naga_oil_link.specs.BuiltModule.{BuiltModule, Builds, nothing_built}
use Rattle.naga_oil_collected_laws.specs.FirstReach.{Reached, from, follow, first_reached, import_requests, link_requests}
use Rattle.naga_oil_collected_laws.specs.ReachedBuilds.{reaches, reached_builds}

abbrev function : List ℕ → Tokens → FunctionValue × Span
function name body = (
  record {
    name = Some name;
    arguments = [];
    result = None;
    local_variables = [];
    expressions = [];
    named_expressions = [];
    body = body;
    diagnostic_filter_leaf = None;
  },
  undefined,
)

abbrev names : List Reached → List Text
names rs = map (λ r. r.function.0.name) rs

-- ---- functions

-- a function, one that calls it, one that calls both, and one that calls none
abbrev value : ModuleValue
value = record no_items {
  functions = function (codes "a") [] ∷ function (codes "b") (Callee 0 ∷ []) ∷ function (codes "c") (Callee 1 ∷ Callee 0 ∷ []) ∷ function (codes "d") [] ∷ [];
}

-- what a function calls stands before it, and a function that was reached stays where it is
called_first : names (first_reached (from value 0 (function (codes "d") []) ∷ from value 0 (function (codes "c") (Callee 1 ∷ Callee 0 ∷ [])) ∷ from value 0 (function (codes "a") []) ∷ [])) ≡ Some (codes "d") ∷ Some (codes "a") ∷ Some (codes "b") ∷ Some (codes "c") ∷ []
unfolding follow
called_first = refl

-- ---- imports

-- a module with one function of its own, which imports another
abbrev build : (index : ℕ) → (name : List ℕ) → List Import → BuiltModule
build index name imports = record (nothing_built (codes "M") index) { imports = imports; functions = name ∷ []; value = record no_items { functions = function name [] ∷ [] } }

abbrev import : List ℕ → List ℕ → Import
import name item = record { import = name; items = item ∷ [] }

-- the first is imported by the second, and nothing imports the third
abbrev builds : Builds
builds = (codes "p", build 1 (codes "fM") []) ∷ (codes "q", build 2 (codes "gM") (import (codes "p") (codes "f") ∷ [])) ∷ (codes "r", build 3 (codes "hM") []) ∷ []

abbrev top : BuiltModule
top = build 0 (codes "t") (import (codes "q") (codes "g") ∷ import (codes "p") (codes "f") ∷ [])

-- what an import imports comes first, and the shader's own functions last
in_order_of_imports : names (link_requests builds top) ≡ Some (codes "fM") ∷ Some (codes "gM") ∷ Some (codes "fM") ∷ Some (codes "t") ∷ []
unfolding import_requests
in_order_of_imports = refl

each_once : names (first_reached (link_requests builds top)) ≡ Some (codes "fM") ∷ Some (codes "gM") ∷ Some (codes "t") ∷ []
unfolding import_requests follow
each_once = refl

-- an item that isn't named by an import isn't requested
unnamed : names (link_requests builds (build 0 (codes "t") (import (codes "q") (codes "x") ∷ []))) ≡ Some (codes "fM") ∷ Some (codes "t") ∷ []
unfolding import_requests
unnamed = refl

-- one that overrides another is
overriding_one : names (import_requests ((codes "p", record (build 1 (codes "fM") []) { overriding = (codes "b", codes "fM" ∷ []) ∷ [] }) ∷ []) (import (codes "p") (codes "x"))) ≡ Some (codes "fM") ∷ []
unfolding import_requests
overriding_one = refl

-- the third build isn't reached
two_reached : map (λ e. e.0) (reached_builds builds top.imports) ≡ codes "p" ∷ codes "q" ∷ []
unfolding reaches
two_reached = refl
