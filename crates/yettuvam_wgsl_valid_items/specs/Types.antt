-- The types that handles name, and what they are.
use Rattle.std.specs.Prelude.{ℕ, Bool, true, false, ◌==◌, ◌&&◌, if◌then◌else◌, List, [], ◌∷◌, length, slice_get, Option, Some, None, option_map}
use Rattle.naga_oil_ir.specs.Rows.{Row, Kind, TypeKind}
use Rattle.naga_oil_ir.specs.declared.span.Span.{Span}
use Rattle.yettuvam_wgsl_names.specs.declared.form_codes.TheConstants.{NOT_TOLD}

-- ---- kinds of types

abbrev pub scalar_kind : ℕ
scalar_kind = 0

abbrev pub struct_kind : ℕ
struct_kind = 10

abbrev pub array_kind : ℕ
array_kind = 11

-- a row is that of a type of this kind
abbrev pub is_kind : ℕ → Kind → Bool
is_kind k (TypeKind n) = n == k
is_kind k other = false

-- what the row of a handle says, and an answer for a handle that names nothing
abbrev pub at_row : {X : Type 0} → (Row → X) → X → Option (Row × Span) → X
at_row f missing None = missing
at_row f missing (Some e) = f e.0

-- the row that a handle names, if there is one
abbrev pub row_at : List (Row × Span) → ℕ → Option Row
row_at types ty = option_map (λ e. e.0) (slice_get types ty)

-- ---- the pseudo-type

abbrev pub plain_is : ℕ → List (Option ℕ) → Bool
plain_is n (Some c ∷ cs) = c == n
plain_is n cs = false

-- the pseudo-type of what has no written type
abbrev pub is_pseudo_type : Row → Bool
is_pseudo_type r = is_kind scalar_kind r.label.kind && plain_is NOT_TOLD r.label.plain

abbrev pub is_not_told : List (Row × Span) → ℕ → Bool
is_not_told types ty = at_row is_pseudo_type false (slice_get types ty)

-- ---- numbers of values

-- the variant of a size that is a written constant
abbrev pub constant_variant : ℕ
constant_variant = 0

-- the number of elements, from the plain values of a size
abbrev pub constant_size : List (Option ℕ) → Option ℕ
constant_size (Some variant ∷ Some count ∷ ns) = if variant == constant_variant then Some count else None
constant_size ns = None

abbrev pub after_stride : List (Option ℕ) → List (Option ℕ)
after_stride [] = []
after_stride (stride ∷ ns) = ns

-- the number of values of a constructor: the members of a struct, the elements of an array with a written constant size
abbrev pub value_count : Row → Option ℕ
value_count r =
    if is_kind struct_kind r.label.kind then Some (length r.label.members)
    else (if is_kind array_kind r.label.kind then constant_size (after_stride r.label.plain) else None)

abbrev pub takes_count : Option ℕ → ℕ → Bool
takes_count None count = true
takes_count (Some expected) count = expected == count

abbrev pub takes_at : Option Row → ℕ → Bool
takes_at None count = true
takes_at (Some r) count = takes_count (value_count r) count

-- a constructor of a type takes this number of values
abbrev pub takes_values : List (Row × Span) → ℕ → ℕ → Bool
takes_values types ty count = takes_at (row_at types ty) count
