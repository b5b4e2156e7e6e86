-- Overrides and variables of the module.
use Rattle.std.specs.Prelude.{ℕ, ◌%◌, Bool, true, false, ◌==◌, ◌||◌, if◌then◌else◌, List, [], ◌∷◌, map, Option, Some, None}
use Rattle.naga_oil_ir.specs.Rows.{Row, override_row}
use Rattle.naga_oil_ir.specs.declared.names.ItemPlace.{ItemPlace}
use Rattle.naga_oil_ir.specs.declared.names.ItemPlace.TheVariants.{TypeItem}
use Rattle.naga_oil_ir.specs.declared.span.Span.{Span}
use Rattle.naga_oil_ir.specs.declared.types.Override.{Override}
use Rattle.yettuvam_wgsl_names.specs.declared.form_codes.TheConstants.{PRIVATE_SPACE, SPACE_ACCESS_UNIT}
use Rattle.yettuvam_wgsl_valid_items.specs.Faults.{Outcome, valid, fault, and_then, each_valid}
use Rattle.yettuvam_wgsl_valid_items.specs.Types.{is_not_told}
use Rattle.yettuvam_wgsl_valid_items.specs.declared.faults.Reason.TheVariants as reason

-- overrides by their rows
abbrev pub override_rows : List (Override × Span) → List (Row × Span)
override_rows os = map (λ o. (override_row o.0, o.1)) os

-- ---- types and values

-- a declaration has a value, or its type is written
abbrev pub typed_valid : List (Row × Span) → ℕ → Option ItemPlace → Span → Outcome
typed_valid types ty None at = if is_not_told types ty then fault reason.NoTypeOrValue at else valid
typed_valid types ty (Some value) at = valid

-- the same from what a row names: its type, and its value
abbrev pub names_valid : List (Row × Span) → List (Option ItemPlace) → Span → Outcome
names_valid types (Some (TypeItem ty) ∷ value ∷ rest) at = typed_valid types ty value at
names_valid types names at = valid

-- only the address space `private` has initial values
abbrev pub fits_value : Option ItemPlace → ℕ → Bool
fits_value None space = true
fits_value (Some value) space = space % SPACE_ACCESS_UNIT == PRIVATE_SPACE

abbrev pub value_in : List (Option ItemPlace) → Option ItemPlace
value_in (ty ∷ value ∷ rest) = value
value_in names = None

abbrev pub space_in : List (Option ℕ) → ℕ
space_in (Some space ∷ ns) = space
space_in ns = 0

-- ---- identifiers of overrides

abbrev pub is_id : Option ℕ → ℕ → Bool
is_id None n = false
is_id (Some own) n = own == n

abbrev pub id_in : List (Option ℕ) → Option ℕ
id_in [] = None
id_in (id ∷ ns) = id

-- the identifier of an override, from its row
abbrev pub id_of : Row → Option ℕ
id_of r = id_in r.label.plain

-- an override has this identifier
abbrev pub has_id : List (Row × Span) → ℕ → Bool
has_id [] n = false
has_id (o ∷ os) n = is_id (id_of o.0) n || has_id os n

-- one of the overrides after an override has its identifier
abbrev pub has_id_again : Option ℕ → List (Row × Span) → Bool
has_id_again None os = false
has_id_again (Some n) os = has_id os n

abbrev pub id_valid : Row × Span → List (Row × Span) → Outcome
id_valid o os = if has_id_again (id_of o.0) os then fault reason.IdTwice o.1 else valid

-- no two overrides have the same identifier
abbrev pub ids_valid : List (Row × Span) → Outcome
ids_valid [] = valid
ids_valid (o ∷ os) = and_then (id_valid o os) (ids_valid os)

-- ---- the tests of a module

abbrev pub override_valid : List (Row × Span) → Row × Span → Outcome
override_valid types o = names_valid types o.0.names o.1

abbrev pub override_types_valid : List (Row × Span) → List (Row × Span) → Outcome
override_types_valid types os = each_valid (override_valid types) os

-- each override has a type or a value, and no two have the same identifier
abbrev pub overrides_valid : List (Row × Span) → List (Row × Span) → Outcome
overrides_valid types os = and_then (override_types_valid types os) (ids_valid os)

abbrev pub variable_valid : List (Row × Span) → Row × Span → Outcome
variable_valid types g =
    and_then (names_valid types g.0.names g.1)
    (if fits_value (value_in g.0.names) (space_in g.0.label.plain) then valid else fault reason.SpaceValue g.1)

-- each variable has a type or a value, and a value only in the address space `private`
abbrev pub variables_valid : List (Row × Span) → List (Row × Span) → Outcome
variables_valid types gs = each_valid (variable_valid types) gs
