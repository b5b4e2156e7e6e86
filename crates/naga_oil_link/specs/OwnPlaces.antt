-- Which items of a module are a build's own, by their places.
use Rattle.std.specs.Prelude.{ℕ, Bool, false, nat_eq, List, []}
use Rattle.std.specs.List.{list_any}
use Rattle.std.specs.BTreeSet.{insert_key}
use Rattle.std.specs.Ordering.{nat_cmp}
use Rattle.naga_oil_ir.specs.declared.names.ItemPlace.{ItemPlace}
use Rattle.naga_oil_ir.specs.declared.names.ItemPlace.TheVariants.{TypeItem, ConstantItem, OverrideItem, GlobalItem, ExpressionItem}
use Rattle.naga_oil_link.specs.declared.own_items.OwnItems.{OwnItems}

-- places of types, constants, overrides and globals, of each kind in order
pub record OwnPlaces : Type 0 where
  pub types : List ℕ
  pub constants : List ℕ
  pub overrides : List ℕ
  pub globals : List ℕ

abbrev pub own_of : OwnItems → OwnPlaces
own_of o = record { types = o.types.keys; constants = o.constants.keys; overrides = o.overrides.keys; globals = o.globals.keys }

abbrev pub nothing_own : OwnPlaces
nothing_own = record { types = []; constants = []; overrides = []; globals = [] }

-- whether the item at a place is own
abbrev pub is_own : OwnPlaces → ItemPlace → Bool
is_own o (TypeItem k) = list_any (nat_eq k) o.types
is_own o (ConstantItem k) = list_any (nat_eq k) o.constants
is_own o (OverrideItem k) = list_any (nat_eq k) o.overrides
is_own o (GlobalItem k) = list_any (nat_eq k) o.globals
is_own o (ExpressionItem k) = false

-- the places with one more
abbrev pub with_place : List ℕ → ℕ → List ℕ
with_place places k = insert_key nat_cmp places k

abbrev pub with_own : OwnPlaces → ItemPlace → OwnPlaces
with_own o (TypeItem k) = record o { types = with_place o.types k }
with_own o (ConstantItem k) = record o { constants = with_place o.constants k }
with_own o (OverrideItem k) = record o { overrides = with_place o.overrides k }
with_own o (GlobalItem k) = record o { globals = with_place o.globals k }
with_own o (ExpressionItem k) = o
