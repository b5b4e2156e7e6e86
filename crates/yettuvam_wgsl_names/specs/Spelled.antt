-- The names of predeclared things.
use Rattle.std.specs.Prelude.{ℕ, List, map, Option, Some, codes}
use Rattle.yettuvam_wgsl_names.specs.Table.{Name}
use Rattle.yettuvam_wgsl_names.specs.Codes.{name_of}
use Rattle.yettuvam_wgsl_names.specs.Functions.{function_name}
use Rattle.yettuvam_wgsl_names.specs.declared.names.Predeclared.{Predeclared}
use Rattle.yettuvam_wgsl_names.specs.declared.names.Predeclared.TheVariants.{Scalar, Vector, Matrix, Array, BindingArray, Atomic, Pointer, Sampler, Texture, TexelFormat, AddressSpace, Access, Function}
use Rattle.yettuvam_wgsl_names.specs.declared.spelled.TheConstants.{SCALARS, VECTORS, MATRICES, SAMPLERS, TEXTURES, TEXEL_FORMATS, ADDRESS_SPACES, ACCESS_MODES}

-- ---- the names of each kind of thing by their codes

abbrev pub scalar_rows : List (ℕ × Name)
scalar_rows = map (λ e. (e.0, e.1.now)) SCALARS

abbrev pub vector_rows : List (ℕ × Name)
vector_rows = map (λ e. (e.0, e.1.now)) VECTORS

abbrev pub matrix_rows : List (ℕ × Name)
matrix_rows = map (λ e. (e.0, e.1.now)) MATRICES

abbrev pub sampler_rows : List (ℕ × Name)
sampler_rows = map (λ e. (e.0, e.1.now)) SAMPLERS

abbrev pub texture_rows : List (ℕ × Name)
texture_rows = map (λ e. (e.0, e.1.now)) TEXTURES

abbrev pub texel_format_rows : List (ℕ × Name)
texel_format_rows = map (λ e. (e.0, e.1.now)) TEXEL_FORMATS

abbrev pub address_space_rows : List (ℕ × Name)
address_space_rows = map (λ e. (e.0, e.1.now)) ADDRESS_SPACES

abbrev pub access_mode_rows : List (ℕ × Name)
access_mode_rows = map (λ e. (e.0, e.1.now)) ACCESS_MODES

-- the name of a predeclared thing, if its code stands for one
abbrev pub spelled : Predeclared → Option Name
spelled (Scalar c) = name_of scalar_rows c
spelled (Vector c) = name_of vector_rows c
spelled (Matrix c) = name_of matrix_rows c
spelled Array = Some (codes "array")
spelled BindingArray = Some (codes "binding_array")
spelled Atomic = Some (codes "atomic")
spelled Pointer = Some (codes "ptr")
spelled (Sampler c) = name_of sampler_rows c
spelled (Texture c) = name_of texture_rows c
spelled (TexelFormat c) = name_of texel_format_rows c
spelled (AddressSpace c) = name_of address_space_rows c
spelled (Access c) = name_of access_mode_rows c
spelled (Function c) = function_name c
