-- What the codes of the intermediate form are called.
use Rattle.std.specs.Prelude.{ℕ, ◌/◌, ◌%◌, ◌==◌, if◌then◌else◌, Option, Some, None, codes}
use Rattle.yettuvam_wgsl_names.specs.Codes.{name_of}
use Rattle.yettuvam_wgsl_names.specs.Table.{Name}
use Rattle.yettuvam_wgsl_names.specs.Spelled.{scalar_rows, vector_rows, matrix_rows, sampler_rows, texture_rows, texel_format_rows, address_space_rows, access_mode_rows}
use Rattle.yettuvam_wgsl_names.specs.Context.{built_in_value_rows, interpolation_type_rows, sampling_rows}

abbrev pub scalar_name : ℕ → Option Name
scalar_name code = name_of scalar_rows code

abbrev pub matrix_name : ℕ → Option Name
matrix_name code = name_of matrix_rows code

abbrev pub sampler_name : ℕ → Option Name
sampler_name code = name_of sampler_rows code

abbrev pub texture_name : ℕ → Option Name
texture_name code = name_of texture_rows code

abbrev pub texel_format_name : ℕ → Option Name
texel_format_name code = name_of texel_format_rows code

abbrev pub space_name : ℕ → Option Name
space_name code = name_of address_space_rows code

abbrev pub access_name : ℕ → Option Name
access_name code = name_of access_mode_rows code

abbrev pub built_in_value_name : ℕ → Option Name
built_in_value_name code = name_of built_in_value_rows code

abbrev pub interpolation_name : ℕ → Option Name
interpolation_name code = name_of interpolation_type_rows code

abbrev pub sampling_name : ℕ → Option Name
sampling_name code = name_of sampling_rows code

-- the name of vectors of `bool` has no component
abbrev pub vector_name : ℕ → Option Name
vector_name code = name_of vector_rows (if code / 16 == 1 then code % 16 else code)

abbrev pub component_name : ℕ → Option Name
component_name i =
    if i == 0 then Some (codes "x")
    else (if i == 1 then Some (codes "y")
    else (if i == 2 then Some (codes "z")
    else (if i == 3 then Some (codes "w")
    else (if i == 4 then Some (codes "r")
    else (if i == 5 then Some (codes "g")
    else (if i == 6 then Some (codes "b")
    else (if i == 7 then Some (codes "a") else None)))))))
