-- Worked rows: which items a link reaches, and in which order a module has them.
use Rattle.std.specs.Prelude.{◌≡◌, refl, ℕ, List, [], ◌∷◌, map, Some, None, codes}
use Rattle.std.specs.List.{flat_map}
use Rattle.naga_oil_ir.specs.Body.{Tokens}
use Rattle.naga_oil_ir.specs.ModuleValue.{ModuleValue, FunctionValue, no_items}
use Rattle.naga_oil_ir.specs.Rows.{Row, TypeKind, ConstantKind, row}
use Rattle.naga_oil_ir.specs.Spans.{undefined}
use Rattle.naga_oil_ir.specs.declared.names.ItemPlace.{ItemPlace}
use Rattle.naga_oil_ir.specs.declared.names.ItemPlace.TheVariants.{TypeItem, ConstantItem}
use Rattle.naga_oil_ir.specs.declared.span.Span.{Span}
use Rattle.naga_oil_ir.specs.declared.tokens.Token.TheVariants.{Callee}
use Rattle.naga_oil_imports.specs.Uses.{Import}
use Rattle.naga_oil_derive.specs.World.{world}
use Rattle.naga_oil_link.specs.BuiltModule.{BuiltModule, Builds, nothing_built}
use Rattle.naga_oil_link.specs.OwnPlaces.{OwnPlaces, nothing_own}
use Rattle.naga_oil_collected_laws.specs.FirstReach.{from}
use Rattle.naga_oil_collected_laws.specs.ItemOrder.{firsts, type_number, AreAllOf}
use Rattle.naga_oil_collected_laws.specs.Trail.{Trail, no_trail, items_from, with_item, with_source, with_call, with_function, import_visits, link_trail, held_trail}

abbrev ty : List ℕ → List ItemPlace → Row × Span
ty name names = (row (TypeKind 10) (Some name) [] [] (map Some names), undefined)

abbrev constant : List ℕ → List ItemPlace → Row × Span
constant name names = (row ConstantKind (Some name) [] [] (map Some names), undefined)

abbrev function : List ℕ → (types : List ℕ) → Tokens → FunctionValue × Span
function name types body = (
  record {
    name = Some name;
    arguments = map (λ k. record { name = None; ty = k; binding = None }) types;
    result = None;
    local_variables = [];
    expressions = [];
    named_expressions = [];
    body = body;
    diagnostic_filter_leaf = None;
  },
  undefined,
)

abbrev places : Trail → List ItemPlace
places t = map (λ r. r.1) t.items

-- ---- items

-- a type, one that names it, and one that names both, the last first; a constant of the second type; a function with an argument
-- of the third type, and one with an argument of the first that calls it
abbrev value : ModuleValue
value = record no_items {
  types = ty (codes "a") [] ∷ ty (codes "b") (TypeItem 0 ∷ []) ∷ ty (codes "c") (TypeItem 1 ∷ TypeItem 0 ∷ []) ∷ [];
  constants = constant (codes "x") (TypeItem 1 ∷ []) ∷ [];
  functions = function (codes "f") (2 ∷ []) [] ∷ function (codes "g") (0 ∷ []) (Callee 0 ∷ []) ∷ [];
}

-- an item stands after what it names
after_names : places (with_item value no_trail (TypeItem 2)) ≡ TypeItem 0 ∷ TypeItem 1 ∷ TypeItem 0 ∷ TypeItem 2 ∷ []
unfolding items_from world
after_names = refl

of_a_constant : places (with_item value no_trail (ConstantItem 0)) ≡ TypeItem 0 ∷ TypeItem 1 ∷ ConstantItem 0 ∷ []
unfolding items_from world
of_a_constant = refl

-- what a function names, in the order of copying, and then what the functions that it calls name
of_functions : places (with_function no_trail (from value 0 (function (codes "g") (0 ∷ []) (Callee 0 ∷ [])))) ≡ TypeItem 0 ∷ TypeItem 0 ∷ TypeItem 1 ∷ TypeItem 0 ∷ TypeItem 2 ∷ []
unfolding items_from world with_call
of_functions = refl

-- ---- special types

-- the second type is special
abbrev special : ModuleValue
special = record value { special_types = record { ray_desc = Some 1; ray_intersection = None; ray_vertex_return = None; predeclared_types = [] } }

special_first : places (with_source special no_trail) ≡ TypeItem 0 ∷ TypeItem 1 ∷ []
unfolding items_from world
special_first = refl

-- it is there then, also for another module with one for its key
special_once : places (with_item special (with_source special (with_source special no_trail)) (TypeItem 2)) ≡ TypeItem 0 ∷ TypeItem 1 ∷ TypeItem 0 ∷ TypeItem 2 ∷ []
unfolding items_from world
special_once = refl

-- ---- builds

-- a module with these items of its own
abbrev build : ModuleValue → OwnPlaces → (names : List (List ℕ)) → List Import → BuiltModule
build m own names imports = record (nothing_built (codes "M") 1) { imports = imports; functions = names; value = m; own_in_value = own }

abbrev import : List ℕ → List ℕ → Import
import name item = record { import = name; items = item ∷ [] }

abbrev one_type : List ℕ → ModuleValue
one_type name = record no_items { types = ty name [] ∷ [] }

abbrev own_type : OwnPlaces
own_type = record nothing_own { types = 0 ∷ [] }

abbrev own_constant : OwnPlaces
own_constant = record nothing_own { constants = 0 ∷ [] }

-- the second imports a type of the first
abbrev builds : Builds
builds =
    (codes "p", build (one_type (codes "sM")) own_type [] [])
    ∷ (codes "q", build value own_constant (codes "f" ∷ []) (import (codes "p") (codes "s") ∷ [])) ∷ []

-- what the imports of an import request comes first, and what a shader's build owns last
abbrev top : BuiltModule
top = build (one_type (codes "t")) own_type [] (import (codes "q") (codes "y") ∷ [])

imports_first : (link_trail builds top).items ≡ (one_type (codes "sM"), TypeItem 0) ∷ (one_type (codes "t"), TypeItem 0) ∷ []
unfolding items_from world with_call import_visits
imports_first = refl

-- two types, an own constant of the second, a foreign one, and a function with an argument of the second type
abbrev few : ModuleValue
few = record no_items {
  types = ty (codes "a") [] ∷ ty (codes "b") (TypeItem 0 ∷ []) ∷ [];
  constants = constant (codes "x") (TypeItem 1 ∷ []) ∷ constant (codes "y") [] ∷ [];
  functions = function (codes "f") (1 ∷ []) [] ∷ [];
}

-- a build takes all types of a module, its own items, and the functions with its names
all_types : places (held_trail few own_constant (codes "f" ∷ [])) ≡ TypeItem 0 ∷ TypeItem 0 ∷ TypeItem 1 ∷ TypeItem 0 ∷ TypeItem 1 ∷ ConstantItem 0 ∷ TypeItem 0 ∷ TypeItem 1 ∷ []
unfolding items_from world with_call
all_types = refl

-- ---- order

each_once : firsts (2 ∷ 0 ∷ 2 ∷ 1 ∷ 0 ∷ []) ≡ 2 ∷ 0 ∷ 1 ∷ []
each_once = refl

-- three types and a constant come in order
in_order : AreAllOf value (TypeItem 0 ∷ TypeItem 1 ∷ ConstantItem 0 ∷ TypeItem 0 ∷ TypeItem 2 ∷ [])
in_order = record { types = refl; constants = refl; overrides = refl; globals = refl; expressions = refl }

-- these don't, as their first occurrences are not 0, 1 and 2
out_of_order : firsts (flat_map type_number (TypeItem 1 ∷ ConstantItem 0 ∷ TypeItem 0 ∷ TypeItem 2 ∷ [])) ≡ 1 ∷ 0 ∷ 2 ∷ []
out_of_order = refl
