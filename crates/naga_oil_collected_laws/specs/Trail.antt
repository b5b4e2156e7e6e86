-- The items that a link or a build reaches, one after another.
use Rattle.std.specs.Prelude.{ℕ, zero, suc, ◌==◌, Bool, false, ◌&&◌, ◌||◌, List, [], ◌∷◌, ◌++◌, fold, map, length, reverse, Option, Some, None, option_to_list, slice_get, is_some, bytes_eq, if◌then◌else◌}
use Rattle.std.specs.List.{flat_map, filter, list_any}
use Rattle.naga_oil_ir.specs.ModuleValue.{ModuleValue, FunctionValue, EntryValue}
use Rattle.naga_oil_ir.specs.Rows.{Row, Text}
use Rattle.naga_oil_ir.specs.declared.names.ItemPlace.{ItemPlace}
use Rattle.naga_oil_ir.specs.declared.names.ItemPlace.TheVariants.{TypeItem, ConstantItem, OverrideItem, GlobalItem, ExpressionItem}
use Rattle.naga_oil_ir.specs.declared.span.Span.{Span}
use Rattle.naga_oil_walk.specs.declared.walk.Request.{Request}
use Rattle.naga_oil_walk.specs.declared.walk.Request.TheVariants.{Item, Call}
use Rattle.naga_oil_imports.specs.Uses.{Import}
use Rattle.naga_oil_derive.specs.declared.special.SpecialKey.{SpecialKey}
use Rattle.naga_oil_derive.specs.Collected.{depth}
use Rattle.naga_oil_derive.specs.CopiedEntry.{entry_names}
use Rattle.naga_oil_derive.specs.DerivedFunctions.{requests_of}
use Rattle.naga_oil_derive.specs.World.{world, special_at, special_entries}
use Rattle.naga_oil_link.specs.BuiltModule.{BuiltModule, Builds}
use Rattle.naga_oil_link.specs.OwnPlaces.{OwnPlaces, is_own}
use Rattle.naga_oil_link.specs.Places.{places_of, name_at}
use Rattle.naga_oil_collected_laws.specs.FirstReach.{Reached, from, has_name, requested_of, import_names, all_names, held_requests}
use Rattle.naga_oil_collected_laws.specs.HeldItems.{taken_items}
use Rattle.naga_oil_collected_laws.specs.RequestedItems.{names_item, all_items}

-- an item of a module
abbrev pub PlaceIn : Type 0
PlaceIn = ModuleValue × ItemPlace

-- the items that were reached, with repeats; the functions, each once; and the keys whose special types are there
pub record Trail : Type 0 where
  pub items : List PlaceIn
  pub functions : List Reached
  pub keys : SpecialKey → Bool

abbrev pub no_trail : Trail
no_trail = record { items = []; functions = []; keys = λ k. false }

-- ---- items

-- what a row names
abbrev pub named_by : Option Row → List ItemPlace
named_by None = []
named_by (Some r) = flat_map option_to_list r.names

-- whether a type is a special type of a module for one of some keys
abbrev pub is_special_for : (keys : SpecialKey → Bool) → ModuleValue → ItemPlace → Bool
is_special_for keys m (TypeItem k) = list_any (λ e. (e.1 == k) && keys e.0) (special_entries m.special_types)
is_special_for keys m (ConstantItem k) = false
is_special_for keys m (OverrideItem k) = false
is_special_for keys m (GlobalItem k) = false
is_special_for keys m (ExpressionItem k) = false

-- an item after what it names, and nothing for what is there already; n is more than the depth of the item
unfoldable pub items_from : ℕ → ModuleValue → (is_there : ItemPlace → Bool) → ItemPlace → List ItemPlace
items_from zero m is_there p = []
items_from (suc n) m is_there p = if is_there p then [] else flat_map (items_from n m is_there) (named_by (world m p)) ++ p ∷ []

-- what an item of a module reaches, where special types with some keys are there already
abbrev pub reached_by : (keys : SpecialKey → Bool) → ModuleValue → ItemPlace → List ItemPlace
reached_by keys m p = items_from (depth m) m (is_special_for keys m) p

-- a trail with an item of a module, after what it names
abbrev pub with_item : ModuleValue → Trail → ItemPlace → Trail
with_item m t p = record t { items = t.items ++ map (λ q. (m, q)) (reached_by t.keys m p) }

abbrev pub special_items : ModuleValue → List ItemPlace
special_items m = map (λ e. TypeItem e.1) (special_entries m.special_types)

-- a trail with the special types of a module that aren't there yet, and which are there from then on
abbrev pub with_source : ModuleValue → Trail → Trail
with_source m t = record t {
  items = t.items ++ map (λ q. (m, q)) (flat_map (reached_by t.keys m) (special_items m));
  keys = λ k. t.keys k || is_some (special_at m.special_types k);
}

-- ---- functions

-- a trail with what the function at a place names, and itself
abbrev pub Caller : Type 0
Caller = Trail → ℕ → Trail

-- a trail with what a function of a module names, an item or, by f, a function
abbrev pub with_request : ModuleValue → Caller → Trail → Request → Trail
with_request m f t (Item p) = with_item m t p
with_request m f t (Call k) = f t k

abbrev pub with_reached : Reached → Trail → Trail
with_reached r t = record t { functions = t.functions ++ r ∷ [] }

-- a trail with a function after what it names, if none has its name
abbrev pub with_new : Caller → Trail → Reached → Trail
with_new f t r = if has_name t.functions r.function.0.name then t else with_reached r (fold (with_request r.source f) t (requests_of r.function.0))

abbrev pub with_found : Caller → ModuleValue → (offset : ℕ) → Trail → Option (FunctionValue × Span) → Trail
with_found f m offset t None = t
with_found f m offset t (Some e) = with_new f t (from m offset e)

-- the same for the function at a place of a module; n is more than the depth of its calls
unfoldable pub with_call : ℕ → ModuleValue → (offset : ℕ) → Caller
with_call zero m offset t k = t
with_call (suc n) m offset t k = with_found (with_call n m offset) m offset t (slice_get m.functions k)

abbrev pub with_function : Trail → Reached → Trail
with_function t r = with_new (with_call (length r.source.functions) r.source r.offset) t r

-- a trail with what an entry point names: its function, and then what else
abbrev pub with_entry : ModuleValue → Trail → EntryValue → Trail
with_entry m t v = fold (with_item m) (fold (with_request m (with_call (length m.functions) m 0)) t (requests_of v.function)) (flat_map option_to_list (entry_names v))

abbrev pub with_entries : ModuleValue → Trail → Trail
with_entries m t = fold (with_entry m) t m.entry_points

-- ---- builds

-- what is requested of one module
pub record Visit : Type 0 where
  pub source : ModuleValue
  pub items : List ItemPlace
  pub functions : List Reached

abbrev pub visit_of : (items : Text → Bool) → (functions : List ℕ → Bool) → BuiltModule → Visit
visit_of items functions b = record {
  source = b.value;
  items = filter (λ p. items (name_at b.value p) && is_own b.own_in_value p) (places_of b.value);
  functions = requested_of functions b;
}

-- what an import requests of builds, the newest first: what the imports of its build request, and then what it requests of the build
unfoldable pub import_visits : Builds → Import → List Visit
import_visits [] i = []
import_visits (e ∷ earlier) i = if bytes_eq i.import e.0 then flat_map (import_visits earlier) e.1.imports ++ visit_of (names_item i e.1) (import_names i e.1) e.1 ∷ [] else import_visits earlier i

-- what a shader's build requests: what its imports request, one after another, and then all of its own
abbrev pub link_visits : Builds → BuiltModule → List Visit
link_visits bs b = flat_map (import_visits (reverse bs)) b.imports ++ visit_of all_items all_names b ∷ []

-- a trail with the special types of a module, the requested items, and the requested functions
abbrev pub with_visit : Trail → Visit → Trail
with_visit t v = fold with_function (fold (with_item v.source) (with_source v.source t) v.items) v.functions

-- what a link reaches
abbrev pub link_trail : Builds → BuiltModule → Trail
link_trail bs b = with_entries b.value (with_source b.value (fold with_visit no_trail (link_visits bs b)))

-- what a build reaches of a module: the items that it takes, and the functions with these names
abbrev pub held_trail : ModuleValue → OwnPlaces → (names : List (List ℕ)) → Trail
held_trail m own names = with_entries m (fold with_function (fold (with_item m) (with_source m no_trail) (taken_items m own)) (held_requests m names))
