-- Worked rows: what headers declare, which items they reach, and what is refused.
use Rattle.std.proofs.Common.{◌≡◌, inl, ℕ, List, [], ◌∷◌, None, Some, map, refl, ap}
use Rattle.std.specs.Prelude.{codes}
use Rattle.std.specs.List.{AllZip, flat_map}
use Rattle.std.proofs.lemmas.Bool.{false≢true}
use Rattle.naga_oil_ir.specs.Body.{Tokens}
use Rattle.naga_oil_ir.specs.ModuleValue.{ModuleValue, FunctionValue, no_items}
use Rattle.naga_oil_ir.specs.Rows.{Row, Text, TypeKind, ConstantKind, row}
use Rattle.naga_oil_ir.specs.Spans.{undefined}
use Rattle.naga_oil_ir.specs.declared.names.ItemPlace.{ItemPlace}
use Rattle.naga_oil_ir.specs.declared.names.ItemPlace.TheVariants.{TypeItem, ConstantItem}
use Rattle.naga_oil_ir.specs.declared.span.Span.{Span}
use Rattle.naga_oil_ir.specs.declared.tokens.Token.{Token}
use Rattle.naga_oil_ir.specs.declared.tokens.Token.TheVariants.{Callee}
use Rattle.naga_oil_imports.specs.Uses.{Import}
use Rattle.naga_oil_derive.specs.CopiedFunction.{copy_function, expressions_upto}
use Rattle.naga_oil_form.specs.Links as links
use Rattle.naga_oil_derive.specs.Tree.{World}
use Rattle.naga_oil_derive.specs.World.{world, shifted}
use Rattle.naga_oil_rename.specs.Renames.{Renames}
use Rattle.naga_oil_derive.proofs.DeriveLemmas.{world_empty, nothing_some}
use Rattle.naga_oil_link.specs.BuiltModule.{BuiltModule, Builds, nothing_built}
use Rattle.naga_oil_link.specs.OwnPlaces.{OwnPlaces, nothing_own}
use Rattle.naga_oil_collected_laws.specs.FirstReach.{Reached, from, import_requests}
use Rattle.naga_oil_collected_laws.specs.HeaderItems.{own_items, held_header_trail, DeclaresInOrder, header_trail}
use Rattle.naga_oil_collected_laws.specs.HeaderRequests.{declared, IsStubOf, header_of, headers_of, header_requests, once, IsDeclarationOf}
use Rattle.naga_oil_collected_laws.specs.ItemOrder.{IsHeldCopy, firsts, type_number}
use Rattle.naga_oil_collected_laws.specs.Trail.{PlaceIn, Trail, items_from, with_call, import_visits}

abbrev ty : List ℕ → List ItemPlace → Row × Span
ty name names = (row (TypeKind 10) (Some name) [] [] (map Some names), undefined)

abbrev constant : List ℕ → List ItemPlace → Row × Span
constant name names = (row ConstantKind (Some name) [] [] (map Some names), undefined)

abbrev function : List ℕ → (types : List ℕ) → Tokens → FunctionValue × Span
function name types body = (
  record {
    name = Some name;
    arguments = map (λ k. record { name = None; ty = k; binding = None }) types;
    result = None;
    local_variables = [];
    expressions = [];
    named_expressions = [];
    body = body;
    diagnostic_filter_leaf = None;
  },
  undefined,
)

abbrev names : List Reached → List Text
names rs = map (λ r. r.function.0.name) rs

abbrev places : Trail → List ItemPlace
places t = map (λ r. r.1) t.items

-- items and functions stay where they are
abbrev staying : Renames
staying = record {
  ty = λ h. h;
  constant = λ h. h;
  pipeline_override = λ h. h;
  global = λ h. h;
  function = λ h. h;
  expression = λ h. h;
  range = λ r. r;
  span = shifted 0;
}

-- ---- stubs

-- what a stub keeps: name and arguments
without_the_body : declared (from no_items 0 (function (codes "f") (2 ∷ []) (Callee 0 ∷ []))) ≡ from no_items 0 (function (codes "f") (2 ∷ []) [])
without_the_body = refl

abbrev calling : Reached
calling = from no_items 0 (function (codes "f") [] (Callee 0 ∷ []))

stub_of_a_function : IsStubOf calling (function (codes "f") [] [])
unfolding copy_function expressions_upto links.trail
stub_of_a_function = (staying, refl)

nothing_is_a_call : ◌≡◌ {A = List Token} (Callee 0 ∷ []) [] → ⊥
nothing_is_a_call e = absurd cc

body_is_refused : IsStubOf calling (function (codes "f") [] (Callee 0 ∷ [])) → ⊥
unfolding copy_function
body_is_refused h = nothing_is_a_call (ap (λ (x : FunctionValue × Span). x.0.body) h.1)

-- ---- declarations

abbrev plain : Reached
plain = from no_items 0 (function (codes "f") [] [])

declaration_of_a_function : IsDeclarationOf plain (function (codes "f") [] [])
unfolding copy_function expressions_upto links.trail
declaration_of_a_function = record { declares = refl; copies = (staying, refl); without_body = refl }

copy_of_a_body_is_refused : (g : FunctionValue × Span) → IsDeclarationOf calling g → ⊥
copy_of_a_body_is_refused g h = nothing_is_a_call h.declares

copy_with_a_body_is_refused : IsDeclarationOf plain (function (codes "f") [] (Callee 0 ∷ [])) → ⊥
copy_with_a_body_is_refused h = nothing_is_a_call h.without_body

-- ---- builds

-- modules with one type and a function, whose headers have another type, of their own, and a declaration
abbrev build : (index : ℕ) → (name ty_name : List ℕ) → List Import → BuiltModule
build index name ty_name imports = record (nothing_built (codes "M") index) {
  imports = imports;
  functions = name ∷ [];
  value = record no_items { types = ty (codes "whole") [] ∷ []; functions = function name [] (Callee 0 ∷ []) ∷ function (codes "hM") [] [] ∷ [] };
  header = record no_items { types = ty (codes "other") [] ∷ ty ty_name [] ∷ []; functions = function name (1 ∷ []) [] ∷ [] };
  own_in_header = record nothing_own { types = 1 ∷ [] };
}

abbrev import : List ℕ → List (List ℕ) → Import
import name items = record { import = name; items = items }

-- the second imports the first
abbrev builds : Builds
builds = (codes "p", build 1 (codes "fM") (codes "sM") []) ∷ (codes "q", build 2 (codes "gM") (codes "tM") (import (codes "p") (codes "f" ∷ []) ∷ [])) ∷ []

-- the header takes the place of the module, and with it its own items
header_is_the_module : header_of (build 1 (codes "fM") (codes "sM") []) ≡ record (build 1 (codes "fM") (codes "sM") []) {
  value = record no_items { types = ty (codes "other") [] ∷ ty (codes "sM") [] ∷ []; functions = function (codes "fM") (1 ∷ []) [] ∷ [] };
  own_in_value = record nothing_own { types = 1 ∷ [] };
}
header_is_the_module = refl

names_stay : map (λ e. e.0) (headers_of builds) ≡ codes "p" ∷ codes "q" ∷ []
names_stay = refl

-- ---- requests of headers

abbrev imports : List Import
imports = import (codes "q") (codes "g" ∷ codes "h" ∷ []) ∷ import (codes "p") (codes "f" ∷ codes "s" ∷ []) ∷ []

-- what imports of imports request comes first; a function that isn't declared isn't requested
in_order_of_imports : names (header_requests builds imports) ≡ Some (codes "fM") ∷ Some (codes "gM") ∷ Some (codes "fM") ∷ []
unfolding import_requests
in_order_of_imports = refl

each_name_once : names (once (header_requests builds imports)) ≡ Some (codes "fM") ∷ Some (codes "gM") ∷ []
unfolding import_requests
each_name_once = refl

-- ---- items

-- two types, an own constant of the second, a foreign one; a function with an argument of the second type, and one that calls it
abbrev few : ModuleValue
few = record no_items {
  types = ty (codes "a") [] ∷ ty (codes "b") (TypeItem 0 ∷ []) ∷ ty (codes "c") [] ∷ [];
  constants = constant (codes "x") (TypeItem 1 ∷ []) ∷ constant (codes "y") [] ∷ [];
  functions = function (codes "f") (1 ∷ []) [] ∷ function (codes "g") (0 ∷ []) (Callee 0 ∷ []) ∷ [];
}

abbrev own_constant : OwnPlaces
own_constant = record nothing_own { constants = 0 ∷ [] }

own_alone : own_items few own_constant ≡ ConstantItem 0 ∷ []
own_alone = refl

-- a header takes the own items, and what signatures name, and nothing that a body calls
what_a_header_reaches : places (held_header_trail few own_constant (codes "g" ∷ [])) ≡ TypeItem 0 ∷ TypeItem 1 ∷ ConstantItem 0 ∷ TypeItem 0 ∷ []
unfolding items_from world with_call
what_a_header_reaches = refl

-- what the imports of an import request comes first: the argument's type, then a requested type; nothing comes of the modules
items_of_headers : map (λ (r : PlaceIn). r.1) (header_trail builds imports).items ≡ TypeItem 1 ∷ TypeItem 1 ∷ TypeItem 1 ∷ []
unfolding items_from world with_call import_visits
items_of_headers = refl

-- ---- a header in order

-- a type, and a function with an argument of it
abbrev small : ModuleValue
small = record no_items { types = ty (codes "a") [] ∷ []; functions = function (codes "f") (0 ∷ []) [] ∷ [] }

itself_in_order : DeclaresInOrder small nothing_own [] (codes "f" ∷ []) small
unfolding items_from world with_call
itself_in_order = record {
  reads = world small;
  decorated = record { each = λ p. inl refl; all = λ k l i. absurd (false≢true i) };
  items = record {
    places = TypeItem 0 ∷ [];
    copies = (record { there = ((ty (codes "a") []).0, refl); alike = λ n. refl }, tt);
    order = record { types = refl; constants = refl; overrides = refl; globals = refl; expressions = refl };
  };
}

missing_type : (reads : World) (qs : List ItemPlace) → AllZip (IsHeldCopy reads no_items) ((small, TypeItem 0) ∷ []) qs → ⊥
missing_type reads [] z = absurd z
missing_type reads (q ∷ qs) z = nothing_some (world no_items q) z.0.there.0 (world_empty q) z.0.there.1

missing_type_is_refused : DeclaresInOrder small nothing_own [] (codes "f" ∷ []) no_items → ⊥
unfolding items_from world with_call
missing_type_is_refused h = missing_type h.reads h.items.places h.items.copies

surplus_type : (reads : World) (qs : List ItemPlace) → AllZip (IsHeldCopy reads small) [] qs → ◌≡◌ {A = List ℕ} (firsts (flat_map type_number qs)) (0 ∷ []) → ⊥
surplus_type reads [] z e = let d : ◌≡◌ {A = List ℕ} [] (0 ∷ []) = e in absurd cc
surplus_type reads (q ∷ qs) z e = absurd z

-- a type that nothing requests
surplus_type_is_refused : DeclaresInOrder small nothing_own [] [] small → ⊥
unfolding items_from world with_call
surplus_type_is_refused h = surplus_type h.reads h.items.places h.items.copies h.items.order.types
