-- What attributes say of a declaration.
use Rattle.std.specs.Prelude.{ℕ, ◌+◌, ◌*◌, ◌==◌, ◌&&◌, if◌then◌else◌, List, [], ◌∷◌, Option, Some, None, is_none}
use Rattle.yettuvam_wgsl_names.specs.declared.form_codes.TheConstants.{COMPUTE, GROUP_UNIT}
use Rattle.yettuvam_wgsl_attributes.specs.declared.attributes.Attributes.{Attributes}
use Rattle.yettuvam_wgsl_attributes.specs.declared.attributes.Dimension.{Dimension}
use Rattle.yettuvam_wgsl_attributes.specs.declared.attributes.Dimension.TheVariants.{Missing, Known, Computed}

abbrev pub binding_code : Attributes → Option ℕ
binding_code attributes = if attributes.code == 0 then None else Some attributes.code

abbrev pub resource_of : Option ℕ → Option ℕ → Option ℕ
resource_of (Some group) (Some binding) = Some (group * GROUP_UNIT + binding)
resource_of _ _ = None

abbrev pub resource_code : Attributes → Option ℕ
resource_code attributes = resource_of attributes.group attributes.binding

-- the size that is known: 1 if it is left out, 0 if a pipeline computes it
abbrev pub known_dimension : Dimension → ℕ
known_dimension Missing = 1
known_dimension (Known size) = size
known_dimension (Computed place) = 0

-- the place of the expression that a pipeline computes
abbrev pub computed_dimension : Dimension → Option ℕ
computed_dimension (Computed place) = Some place
computed_dimension _ = None

abbrev pub sizes_of : Attributes → (stage : ℕ) → List ℕ
sizes_of attributes stage = if stage == COMPUTE
    then known_dimension attributes.x ∷ known_dimension attributes.y ∷ known_dimension attributes.z ∷ []
    else 0 ∷ 0 ∷ 0 ∷ []

abbrev pub computed_of : (x y z : Option ℕ) → Option (List (Option ℕ))
computed_of x y z = if is_none x && is_none y && is_none z then None else Some (x ∷ y ∷ z ∷ [])

abbrev pub computed_sizes : Attributes → Option (List (Option ℕ))
computed_sizes attributes = computed_of (computed_dimension attributes.x) (computed_dimension attributes.y) (computed_dimension attributes.z)
