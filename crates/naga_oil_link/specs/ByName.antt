-- The items of a module by their names.
use Rattle.std.specs.Prelude.{◌≡◌, ◌≤◌, ◌<◌, ◌+◌, ℕ, Bool, true, false, List, length, drop, map, Some, None, slice_get, get_or, bytes_eq, Vec}
use Rattle.std.specs.BTreeSet.{insert_key}
use Rattle.std.specs.Cmp.Lexicographic.{slice_cmp}
use Rattle.std.specs.List.{filter, fold, range_with_len, All}
use Rattle.std.specs.List.Sorted.{IsSortedBy}
use Rattle.std.specs.Option.{option_cmp, option_flatten}
use Rattle.std.specs.Ordering.{nat_cmp, is_lt}
use Rattle.std.specs.declared.cmp.Ordering.{Ordering}
use Rattle.std.specs.declared.alloc.Global.{Global}
use Rattle.naga_oil_ir.specs.ModuleValue.{ModuleValue, module_value}
use Rattle.naga_oil_ir.specs.Rows.{Text}
use Rattle.naga_oil_link.specs.Places.{places_of, name_at}
use Rattle.naga_oil_link.specs.declared.by_name.Listed.{Listed}
use Rattle.naga_oil_link.specs.declared.by_name.Listed.TheVariants.{Functions, Items}
use Rattle.naga_oil_link.specs.declared.by_name.NamedItems.{NamedItems}

-- ---- places by names

-- the name at a place, if there is one
abbrev pub text_at : List Text → ℕ → Text
text_at names k = option_flatten (slice_get names k)

-- the places of the names that pass a test, in order
abbrev pub places_where : (Text → Bool) → List Text → List ℕ
places_where test names = filter (λ k. test (text_at names k)) (range_with_len 0 (length names))

-- places with others, each once, in order
abbrev pub with_places : List ℕ → List ℕ → List ℕ
with_places places others = fold (insert_key nat_cmp) places others

-- whether there is a name, and it is this one
abbrev pub is_name : List ℕ → Text → Bool
is_name name None = false
is_name name (Some other) = bytes_eq name other

-- the places of this name, in order
abbrev pub places_named : List Text → List ℕ → List ℕ
places_named names name = places_where (is_name name) names

-- the byte order of names; a missing name is the least
abbrev pub compare_names : Text → Text → Ordering
compare_names = option_cmp (slice_cmp nat_cmp)

-- whether the name at a place is less than that at another
abbrev pub stands_before : List Text → ℕ → ℕ → Bool
stands_before names j k = is_lt (compare_names (text_at names j) (text_at names k))

abbrev pub ByName : Type 0
ByName = Vec ℕ Global

-- places sorted by their names, those with the same name in order
pub record IsIndexOf (names : List Text) (index : ByName) : Type 0 where
  pub sorted : IsSortedBy (stands_before names) index.items
  pub each : (name : List ℕ) → filter (λ k. is_name name (text_at names k)) index.items ≡ places_named names name

-- the places that have a name, from a place of an index on
abbrev pub named_from : List Text → List ℕ → List ℕ → ℕ → List ℕ
named_from names name places start = filter (λ k. is_name name (text_at names k)) (drop start places)

-- from a place of an index on no name is less than this one, and the name before that place isn't greater
pub record IsReached (names : List Text) (name : List ℕ) (places : List ℕ) (at : ℕ) : Type 0 where
  pub within : at ≤ length places
  pub from : All (λ k. is_lt (compare_names (text_at names k) (Some name)) ≡ false) (drop at places)
  pub before : (k : ℕ) → k + 1 ≡ at → is_lt (compare_names (Some name) (text_at names (get_or places k 0))) ≡ false

-- the first place of an index with a name, or where that name would be: all names before are less
pub record IsStart (names : List Text) (name : List ℕ) (places : List ℕ) (start : ℕ) : Type 0 where
  pub reached : IsReached names name places start
  pub named : named_from names name places start ≡ places_named names name

-- a place of an index at which a name may start: the name before it is another one
abbrev pub MayStart : List Text → List ℕ → ℕ → Type 0
MayStart names places at = (k : ℕ) → k + 1 ≡ at → at < length places → is_lt (compare_names (text_at names (get_or places k 0)) (text_at names (get_or places at 0))) ≡ true

-- ---- the items of a module

-- the names of a module's types, constants, overrides and globals
abbrev pub place_names : ModuleValue → List Text
place_names m = map (name_at m) (places_of m)

-- the names of a module's functions
abbrev pub names_of_functions : ModuleValue → List Text
names_of_functions m = map (λ f. f.0.name) m.functions

-- the names of the elements of a list
abbrev pub listed_names : Listed → List Text
listed_names (Functions of) = names_of_functions (module_value of.now)
listed_names (Items of places) = map (name_at (module_value of.now)) places.now

-- a module's items by their names
pub record HasItems (m : ModuleValue) (items : NamedItems) : Type 0 where
  pub places : items.places.items ≡ places_of m
  pub by_name : IsIndexOf (place_names m) items.by_name
  pub functions : IsIndexOf (names_of_functions m) items.functions
