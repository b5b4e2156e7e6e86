-- The attributes before a declaration.
use Rattle.std.specs.Prelude.{ℕ, ◌+◌, ◌*◌, ◌==◌, if◌then◌else◌, min, Option, Some, None, bit_or, count_ones, nat_le}
use Rattle.std.specs.Int.{trailing_zeros, w32}
use Rattle.yettuvam_wgsl_names.specs.declared.form_codes.TheConstants.{ALIGN_UNIT, BLEND_SRC_UNIT, BUILT_IN, BUILT_IN_VALUE_UNIT}
use Rattle.yettuvam_wgsl_names.specs.declared.form_codes.TheConstants.{INTERPOLATION_UNIT, INVARIANT_UNIT, LOCATION, LOCATION_UNIT, SAMPLING_UNIT}
use Rattle.yettuvam_wgsl_attributes.specs.declared.attributes.Attributes.{Attributes}
use Rattle.yettuvam_wgsl_attributes.specs.declared.attributes.Dimension.{Dimension}
use Rattle.yettuvam_wgsl_attributes.specs.declared.attributes.Dimension.TheVariants as dimension
use Rattle.yettuvam_wgsl_attributes.specs.declared.words.Attribute.{Attribute}
use Rattle.yettuvam_wgsl_attributes.specs.declared.words.Attribute.TheVariants.{Align, Binding, BlendSrc, Group, Id, Location, Size}

abbrev pub no_attributes : Attributes
no_attributes = record { stage = None; group = None; binding = None; id = None; size = 0; code = 0; x = dimension.Missing; y = dimension.Missing; z = dimension.Missing }

-- the greatest number of a code
abbrev pub greatest : ℕ
greatest = 18446744073709551615

abbrev pub location_bits : ℕ → ℕ
location_bits number = number * LOCATION_UNIT + LOCATION

abbrev pub built_in_bits : ℕ → ℕ
built_in_bits code = min (min (code * BUILT_IN_VALUE_UNIT) greatest + BUILT_IN) greatest

abbrev pub interpolation_bits : (kind sampling : ℕ) → ℕ
interpolation_bits kind sampling = min (min (kind * INTERPOLATION_UNIT) greatest + min (sampling * SAMPLING_UNIT) greatest) greatest

-- of a power of 2, its exponent and 1
abbrev pub align_bits : ℕ → Option ℕ
align_bits number = if count_ones number == 1 then Some (min (min (trailing_zeros w32 number + 1) greatest * ALIGN_UNIT) greatest) else None

abbrev pub blend_bits : ℕ → Option ℕ
blend_bits number = if nat_le number 1 then Some ((number + 1) * BLEND_SRC_UNIT) else None

abbrev pub invariant_bits : ℕ
invariant_bits = INVARIANT_UNIT

abbrev pub with_bits : ℕ → Attributes → Attributes
with_bits bits old = record old { code = bit_or old.code bits }

abbrev pub with_some_bits : Option ℕ → Attributes → Option Attributes
with_some_bits (Some bits) old = Some (with_bits bits old)
with_some_bits None old = None

abbrev pub with_stage : ℕ → Attributes → Attributes
with_stage stage old = record old { stage = Some stage }

abbrev pub with_sizes : (x y z : Dimension) → Attributes → Attributes
with_sizes x y z old = record old { x = x; y = y; z = z }

-- the attributes with one of a number, if that fits
abbrev pub with_number : Attribute → ℕ → Attributes → Option Attributes
with_number Group number old = Some (record old { group = Some number })
with_number Binding number old = Some (record old { binding = Some number })
with_number Id number old = Some (record old { id = Some number })
with_number Size number old = Some (record old { size = number })
with_number Location number old = Some (with_bits (location_bits number) old)
with_number Align number old = with_some_bits (align_bits number) old
with_number BlendSrc number old = with_some_bits (blend_bits number) old
with_number _ number old = None
