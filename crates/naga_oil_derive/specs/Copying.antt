-- What holds between the calls that copy items, and what each of them does.
use Rattle.std.specs.Prelude.{◌⊎◌, ℕ, zero, suc, ◌≡◌, ◌+◌, ◌*◌, ◌<◌, List, [], ◌∷◌, length, map, Option, Some, None, option_map, slice_get, slice_set, unwrap_or, All, IfSome, if◌then◌else◌}
use Rattle.std.specs.List.{AllZip}
use Rattle.std.specs.Option.{option_flatten}
use Rattle.naga_oil_ir.specs.Rows.{Row}
use Rattle.naga_oil_form.specs.ItemForm.{is_sized}
use Rattle.naga_oil_ir.specs.ModuleValue.{special_value}
use Rattle.naga_oil_ir.specs.declared.module.Module.{Module}
use Rattle.naga_oil_ir.specs.declared.names.ItemPlace.{ItemPlace}
use Rattle.naga_oil_ir.specs.declared.names.ItemPlace.TheVariants.{TypeItem, ConstantItem, OverrideItem, GlobalItem, ExpressionItem}
use Rattle.naga_oil_derive.specs.declared.maps.Maps.{Maps}
use Rattle.naga_oil_derive.specs.declared.special.SpecialKey.{SpecialKey}
use Rattle.naga_oil_rename.specs.Renames.{Renames}
use Rattle.naga_oil_derive.specs.Tree.{World, Kept}
use Rattle.naga_oil_derive.specs.World.{ItemMap, goes, value_of, world, shifted, Extends, named_world, kept_of}
use Rattle.naga_oil_derive.specs.Collected.{depth}

-- ---- worlds

-- everything that an item reaches is there, within a depth
unfoldable pub IsWhole : ℕ → World → ItemPlace → Type 0
IsWhole zero w p = ⊥
IsWhole (suc n) w p = (r : Row) × (w p ≡ Some r) × All (λ o. IfSome o (IsWhole n w)) r.names

abbrev pub AreWhole : World → Type 0
AreWhole w = (p : ItemPlace) (r : Row) → w p ≡ Some r → (n : ℕ) × IsWhole n w p

-- no item stands twice
abbrev pub HasNoRepeats : World → Type 0
HasNoRepeats w = (p q : ItemPlace) (r : Row) → w p ≡ Some r → w q ≡ Some r → p ≡ q

-- a target in which each item is whole and stands once
pub record IsSound (v : World) : Type 0 where
  pub whole : AreWhole v
  pub once : HasNoRepeats v

-- what places map to
abbrev pub Goes : Type 0
Goes = ItemPlace → Option ItemPlace

abbrev pub NameGoesTo : Goes → Option ItemPlace → Option ItemPlace → Type 0
NameGoesTo m None None = Unit {0}
NameGoesTo m None (Some q) = ⊥
NameGoesTo m (Some p) None = ⊥
NameGoesTo m (Some p) (Some q) = m p ≡ Some q

-- s is r with its names mapped
pub record IsCopyOf (m : Goes) (r s : Row) : Type 0 where
  pub label : s.label ≡ r.label
  pub names : AllZip (NameGoesTo m) r.names s.names

-- a mapped place is mapped to its kept place or to its copy
pub record AreCopied (w v : World) (kept m : Goes) : Type 0 where
  pub stand : (p q : ItemPlace) → kept p ≡ Some q → m p ≡ Some q
  pub each :
      (p q : ItemPlace) (r : Row) → m p ≡ Some q → kept p ≡ None → w p ≡ Some r →
      (s : Row) × (v q ≡ Some s) × IsCopyOf m r s
  pub there : (p q : ItemPlace) → m p ≡ Some q → (s : Row) × (v q ≡ Some s)
  pub known : (p q : ItemPlace) → m p ≡ Some q → (r : Row) × (w p ≡ Some r)

-- n is m with one more place
pub record Puts (m n : Goes) (p q : ItemPlace) : Type 0 where
  pub at : n p ≡ Some q
  pub others : (x : ItemPlace) → (x ≡ p → ⊥) → n x ≡ m x

-- u is v with the row s at q, and with no other new row; s is new only if no item was equal
pub record Fetches (v u : World) (s : Row) (q : ItemPlace) : Type 0 where
  pub at : u q ≡ Some s
  pub stays : (x : ItemPlace) (r : Row) → v x ≡ Some r → u x ≡ Some r
  pub only :
      (x : ItemPlace) (r : Row) → u x ≡ Some r →
      (v x ≡ Some r) ⊎ ((x ≡ q) × ((y : ItemPlace) → v y ≡ Some s → ⊥))

-- ---- modules

abbrev pub IsThere : Module → ItemPlace → Type 0
IsThere m p = (r : Row) × (world (value_of m) p ≡ Some r)

-- a rank above that of the initialiser
abbrev pub rank_after : ℕ → Option ℕ → ℕ
rank_after n None = n
rank_after n (Some e) = n + 2 * e + 2

-- a number that is larger than those of the items named: types without sizes come first, then constants, overrides and
-- expressions, then types with sizes, then globals
unfoldable pub rank : Module → ItemPlace → ℕ
rank m (TypeItem k) = if is_sized m k then length m.types + 2 * length m.global_expressions + 1 + k else k
rank m (ConstantItem k) = rank_after (length m.types) (option_map (λ e. e.0.init) (slice_get m.constants k))
rank m (OverrideItem k) =
    rank_after (length m.types)
    (option_flatten (option_map (λ e. e.0.init) (slice_get m.overrides k)))
rank m (GlobalItem k) = 2 * length m.types + 2 * length m.global_expressions + 1
rank m (ExpressionItem k) = length m.types + 2 * k + 1

-- each item names items that are there, of lower rank
abbrev pub IsBelowItem : Module → ItemPlace → Option ItemPlace → Type 0
IsBelowItem m p o = IfSome o (λ q. IsThere m q × (rank m q < rank m p))

pub record AreRanked (m : Module) : Type 0 where
  pub names : (p : ItemPlace) (r : Row) → world (value_of m) p ≡ Some r → All (IsBelowItem m p) r.names
  pub within : (p : ItemPlace) → IsThere m p → rank m p < depth (value_of m)

-- ---- maps

abbrev pub places_of : Maps → ItemMap
places_of m = record {
  types = m.types.items;
  constants = m.constants.items;
  overrides = m.overrides.items;
  global_variables = m.global_variables.items;
  global_expressions = m.global_expressions.items;
}

unfoldable pub goes_under : Maps → Goes
goes_under m = goes (places_of m)

abbrev pub handle_under : List (Option ℕ) → ℕ → ℕ
handle_under m k = unwrap_or (option_flatten (slice_get m k)) k

-- a mapped handle maps to its copy; other handles, functions and ranges stay
abbrev pub renames_under : Maps → Renames
renames_under m = record {
  ty = handle_under m.types.items;
  constant = handle_under m.constants.items;
  pipeline_override = handle_under m.overrides.items;
  global = handle_under m.global_variables.items;
  function = λ h. h;
  expression = handle_under m.global_expressions.items;
  range = λ r. r;
  span = shifted m.offset;
}

pub record AreLong (m : Maps) (source : Module) : Type 0 where
  pub types : length m.types.items ≡ length source.types
  pub constants : length m.constants.items ≡ length source.constants
  pub overrides : length m.overrides.items ≡ length source.overrides
  pub globals : length m.global_variables.items ≡ length source.global_variables
  pub expressions : length m.global_expressions.items ≡ length source.global_expressions

abbrev pub put_kept : List (Option ℕ) → ℕ → Option ℕ → List (Option ℕ)
put_kept ts k None = ts
put_kept ts k (Some q) = slice_set ts k (Some q)

-- the places of types, with those of kept special types; of two for one type the last
abbrev pub kept_over : (SpecialKey → Option ℕ) → List (SpecialKey × ℕ) → List (Option ℕ) → List (Option ℕ)
kept_over f [] ts = ts
kept_over f (e ∷ es) ts = kept_over f es (put_kept ts e.1 (f e.0))

-- the special types as names
abbrev pub special_names : List (SpecialKey × ℕ) → List (Option ItemPlace)
special_names es = map (λ e. Some (TypeItem e.1)) es

-- ---- the state between calls

-- the source, with the names that its items have in the target
unfoldable pub source_world : Module → Module → Maps → World
source_world source target m = named_world (world (value_of source)) (world (value_of target)) (goes_under m)

unfoldable pub kept_between : Module → Module → Kept
kept_between source target = kept_of (special_value source.special_types) (special_value target.special_types)

pub record IsCopying (source target : Module) (m : Maps) : Type 0 where
  pub long : AreLong m source
  pub sound : IsSound (world (value_of target))
  pub copied :
      AreCopied (source_world source target m) (world (value_of target))
      (kept_between source target) (goes_under m)

-- maps and target only grow: a mapped place stays mapped, and each item of the target keeps its handle and its span
pub record Grows (m n : Maps) (t u : Module) : Type 0 where
  pub went : (p q : ItemPlace) → goes_under m p ≡ Some q → goes_under n p ≡ Some q
  pub offset : n.offset ≡ m.offset
  pub extends : Extends (value_of t) (value_of u)
  pub special : special_value u.special_types ≡ special_value t.special_types

abbrev pub WentSomewhere : Goes → Option ItemPlace → Type 0
WentSomewhere m o = IfSome o (λ p. (q : ItemPlace) × (m p ≡ Some q))

-- ns is what the item names, if it is there
abbrev pub AreNames : Option Row → List (Option ItemPlace) → Type 0
AreNames o ns = IfSome o (λ r. ns ≡ r.names)
