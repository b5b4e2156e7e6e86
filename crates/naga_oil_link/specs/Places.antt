-- The types, constants, overrides and globals of a module, by their places.
use Rattle.std.specs.Prelude.{ℕ, List, ◌++◌, length, map, None, option_map, slice_get}
use Rattle.std.specs.List.{range_with_len}
use Rattle.std.specs.Option.{option_flatten}
use Rattle.naga_oil_ir.specs.ModuleValue.{ModuleValue}
use Rattle.naga_oil_ir.specs.Rows.{Row, Text}
use Rattle.naga_oil_ir.specs.declared.names.ItemPlace.{ItemPlace}
use Rattle.naga_oil_ir.specs.declared.names.ItemPlace.TheVariants.{TypeItem, ConstantItem, OverrideItem, GlobalItem, ExpressionItem}
use Rattle.naga_oil_ir.specs.declared.span.Span.{Span}

-- the first places of one kind, as many as the count
abbrev pub places_from_first : (ℕ → ItemPlace) → ℕ → List ItemPlace
places_from_first place n = map place (range_with_len 0 n)

-- the places of a module's types, then of its constants, overrides and globals
abbrev pub places_of : ModuleValue → List ItemPlace
places_of m =
    places_from_first TypeItem (length m.types) ++ places_from_first ConstantItem (length m.constants)
    ++ places_from_first OverrideItem (length m.overrides) ++ places_from_first GlobalItem (length m.global_variables)

-- the name of an item, if it is there and has one
abbrev pub name_in : List (Row × Span) → ℕ → Text
name_in items k = option_flatten (option_map (λ e. e.0.label.name) (slice_get items k))

-- the name of the type, constant, override or global at a place
abbrev pub name_at : ModuleValue → ItemPlace → Text
name_at m (TypeItem k) = name_in m.types k
name_at m (ConstantItem k) = name_in m.constants k
name_at m (OverrideItem k) = name_in m.overrides k
name_at m (GlobalItem k) = name_in m.global_variables k
name_at m (ExpressionItem k) = None
