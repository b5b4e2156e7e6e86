-- The state after an item is copied, as a value: what the items of a source map to, and the module that they are copied into.
use Rattle.std.specs.Prelude.{ℕ, zero, suc, Bool, List, [], ◌∷◌, Option, Some, None, slice_get, slice_set, is_some, if◌then◌else◌}
use Rattle.naga_oil_ir.specs.Parts.{Parts}
use Rattle.naga_oil_ir.specs.Places.{place_of, with_element}
use Rattle.naga_oil_ir.specs.Rows.{Row, Text}
use Rattle.naga_oil_ir.specs.ModuleValue.{ModuleValue}
use Rattle.naga_oil_ir.specs.declared.module.Module.{Module}
use Rattle.naga_oil_ir.specs.declared.span.Span.{Span}
use Rattle.naga_oil_ir.specs.declared.names.ItemPlace.{ItemPlace}
use Rattle.naga_oil_ir.specs.declared.names.ItemPlace.TheVariants.{TypeItem, ConstantItem, OverrideItem, GlobalItem, ExpressionItem}
use Rattle.naga_oil_derive.specs.declared.maps.Maps.{Maps}
use Rattle.naga_oil_derive.specs.Equal.{row_eq, parts_eq}
use Rattle.naga_oil_rename.specs.Renames.{Renames, rename, rename_row, under_name}
use Rattle.naga_oil_derive.specs.World.{ItemMap, goes, value_of, world, shifted}
use Rattle.naga_oil_derive.specs.Collected.{depth}
use Rattle.naga_oil_derive.specs.Copying.{handle_under, places_of}

pub record CopyState : Type 0 where
  pub places : ItemMap
  pub target : ModuleValue

abbrev pub copy_state : Maps → Module → CopyState
copy_state m t = record { places = places_of m; target = value_of t }

-- a mapped handle maps to its copy; other handles, functions and ranges stay; spans are shifted
abbrev pub renames_by : ℕ → ItemMap → Renames
renames_by shift m = record {
  ty = handle_under m.types;
  constant = handle_under m.constants;
  pipeline_override = handle_under m.overrides;
  global = handle_under m.global_variables;
  function = λ h. h;
  expression = handle_under m.global_expressions;
  range = λ r. r;
  span = shifted shift;
}

-- ---- one item

-- the place of the first equal item of an arena, or the one after the last
abbrev pub place_in : {A : Type 0} → (A → A → Bool) → List (A × Span) → A → ℕ
place_in same xs x = place_of (λ e. same x e.0) xs

-- an arena with an item, unless it has an equal one
abbrev pub with_item_in : {A : Type 0} → (A → A → Bool) → List (A × Span) → A → Span → List (A × Span)
with_item_in same xs x s = with_element (λ e. same x e.0) xs (x, s)

-- f of the item at a place of the source, or the same state if no item is there
abbrev pub of_item : {A : Type 0} → CopyState → (A → Span → CopyState) → Option (A × Span) → CopyState
of_item s f None = s
of_item s f (Some e) = f e.0 e.1

abbrev pub with_type : CopyState → ℕ → Row → Span → CopyState
with_type s k r span = record {
  places = record s.places { types = slice_set s.places.types k (Some (place_in row_eq s.target.types r)) };
  target = record s.target { types = with_item_in row_eq s.target.types r span };
}

abbrev pub with_constant : CopyState → ℕ → Row → Span → CopyState
with_constant s k r span = record {
  places = record s.places { constants = slice_set s.places.constants k (Some (place_in row_eq s.target.constants r)) };
  target = record s.target { constants = with_item_in row_eq s.target.constants r span };
}

abbrev pub with_override : CopyState → ℕ → Row → Span → CopyState
with_override s k r span = record {
  places = record s.places { overrides = slice_set s.places.overrides k (Some (place_in row_eq s.target.overrides r)) };
  target = record s.target { overrides = with_item_in row_eq s.target.overrides r span };
}

abbrev pub with_global : CopyState → ℕ → Row → Span → CopyState
with_global s k r span = record {
  places = record s.places {
    global_variables =
        slice_set s.places.global_variables k (Some (place_in row_eq s.target.global_variables r));
  };
  target = record s.target { global_variables = with_item_in row_eq s.target.global_variables r span };
}

abbrev pub with_expression : CopyState → ℕ → Parts → Span → CopyState
with_expression s k p span = record {
  places = record s.places {
    global_expressions =
        slice_set s.places.global_expressions k
        (Some (place_in parts_eq s.target.global_expressions p));
  };
  target = record s.target { global_expressions = with_item_in parts_eq s.target.global_expressions p span };
}

-- a type is copied, under a name if one is given
unfoldable pub put_type : ModuleValue → ℕ → Option Text → CopyState → ℕ → CopyState
put_type m shift name s k =
    of_item s
    (λ r span.
    with_type s k (under_name name (rename_row (renames_by shift s.places) r))
    (shifted shift span))
    (slice_get m.types k)

-- the item at a place is copied, with the names that it has renamed to what they map to
unfoldable pub put : ModuleValue → ℕ → CopyState → ItemPlace → CopyState
put m shift s (TypeItem k) = put_type m shift None s k
put m shift s (ConstantItem k) =
    of_item s
    (λ r span. with_constant s k (rename_row (renames_by shift s.places) r) (shifted shift span))
    (slice_get m.constants k)
put m shift s (OverrideItem k) =
    of_item s
    (λ r span. with_override s k (rename_row (renames_by shift s.places) r) (shifted shift span))
    (slice_get m.overrides k)
put m shift s (GlobalItem k) =
    of_item s
    (λ r span. with_global s k (rename_row (renames_by shift s.places) r) (shifted shift span))
    (slice_get m.global_variables k)
put m shift s (ExpressionItem k) =
    of_item s
    (λ p span. with_expression s k (rename (renames_by shift s.places) p) (shifted shift span))
    (slice_get m.global_expressions k)

-- ---- an item with what it names

abbrev pub Copier : Type 0
Copier = CopyState → ItemPlace → CopyState

-- the named items are copied in order
abbrev pub copy_each : Copier → CopyState → List (Option ItemPlace) → CopyState
copy_each f s [] = s
copy_each f s (None ∷ ps) = copy_each f s ps
copy_each f s (Some p ∷ ps) = copy_each f (f s p) ps

abbrev pub copy_row_names : Copier → CopyState → Option Row → CopyState
copy_row_names f s None = s
copy_row_names f s (Some r) = copy_each f s r.names

-- a mapped item stays; for any other, what it names is copied by f, then the item
abbrev pub copy_item_by : Copier → ModuleValue → ℕ → Copier
copy_item_by f m shift s p = if is_some (goes s.places p) then s else put m shift (copy_row_names f s (world m p)) p

-- n is more than the depth of the item
unfoldable pub copy_within : ℕ → ModuleValue → ℕ → Copier
copy_within zero m shift s p = s
copy_within (suc n) m shift s p = copy_item_by (copy_within n m shift) m shift s p

-- the item at a place is copied after what it names
abbrev pub copy_item : ModuleValue → ℕ → Copier
copy_item m shift s p = copy_within (depth m) m shift s p

abbrev pub copy_all : ModuleValue → ℕ → CopyState → List (Option ItemPlace) → CopyState
copy_all m shift s ps = copy_each (copy_item m shift) s ps

-- a type is copied after what it names, under a name if one is given
abbrev pub copy_named_type : ModuleValue → ℕ → Option Text → CopyState → ℕ → CopyState
copy_named_type m shift name s k =
    if is_some (goes s.places (TypeItem k)) then s else
    put_type m shift name (copy_row_names (copy_item m shift) s (world m (TypeItem k))) k
