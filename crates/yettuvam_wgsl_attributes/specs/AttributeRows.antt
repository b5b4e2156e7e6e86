-- Attributes, worked by hand.
use lib.Count.{ones, count_trailing_zeros}
use Rattle.std.specs.Prelude.{◌≡◌, refl, codes, ◌*◌, ◌+◌, ◌∷◌, [], Some, None, option_and_then}
use Rattle.yettuvam_wgsl_attributes.specs.Words.{attribute_of}
use Rattle.yettuvam_wgsl_attributes.specs.Attributes.{no_attributes, with_number, with_bits, built_in_bits, with_sizes}
use Rattle.yettuvam_wgsl_attributes.specs.Declarations.{binding_code, resource_code, sizes_of, computed_sizes}
use Rattle.yettuvam_wgsl_attributes.specs.declared.words.Attribute.TheVariants.{Align, Binding, Group, Location, Stage}
use Rattle.yettuvam_wgsl_attributes.specs.declared.attributes.Dimension.TheVariants.{Missing, Known, Computed}

pub name_row : attribute_of (codes "location") ≡ Some Location
name_row = refl

pub stage_row : attribute_of (codes "compute") ≡ Some (Stage 2)
stage_row = refl

pub unknown_row : attribute_of (codes "local") ≡ None
unknown_row = refl

-- `@location(3)`: the class, and the number from bit 32 on
pub location_row : option_and_then binding_code (with_number Location 3 no_attributes) ≡ Some (3 * 4294967296 + 2)
location_row = refl

-- `@builtin(position)`, the fourth built-in value
pub position_row : binding_code (with_bits (built_in_bits 4) no_attributes) ≡ Some (4 * 256 + 1)
position_row = refl

-- `@align(16)`: 2 to the power of the code less 1
pub align_row : option_and_then binding_code (with_number Align 16 no_attributes) ≡ Some (5 * 16777216)
unfolding ones count_trailing_zeros
align_row = refl

pub no_align_row : with_number Align 12 no_attributes ≡ None
unfolding ones
no_align_row = refl

-- `@group(1) @binding(2)`
pub resource_row : option_and_then resource_code (option_and_then (with_number Binding 2) (with_number Group 1 no_attributes)) ≡ Some (4294967296 + 2)
resource_row = refl

-- `@workgroup_size(8)` and `@workgroup_size(8, N)` of an override
pub sizes_row : sizes_of (with_sizes (Known 8) Missing Missing no_attributes) 2 ≡ 8 ∷ 1 ∷ 1 ∷ []
sizes_row = refl

pub computed_row : computed_sizes (with_sizes (Known 8) (Computed 0) Missing no_attributes) ≡ Some (None ∷ Some 0 ∷ None ∷ [])
computed_row = refl
