-- Words that mean types, address spaces, access modes and texel formats.
use Rattle.std.specs.Prelude.{ℕ, nat_lt, nat_le, ◌==◌, ◌&&◌, if◌then◌else◌, List, [], Option, Some, None}
use Rattle.std.specs.Str.{is_utf8}
use Rattle.yettuvam_wgsl_names.specs.Table.{Name, meaning}
use Rattle.yettuvam_wgsl_names.specs.Names.{predeclared_rows}
use Rattle.yettuvam_wgsl_names.specs.declared.names.Predeclared.{Predeclared}
use Rattle.yettuvam_wgsl_names.specs.declared.names.Predeclared.TheVariants as word
use Rattle.yettuvam_wgsl_names.specs.declared.functions.TheConstants.{BITCAST}
use Rattle.yettuvam_wgsl_types.specs.declared.types.PlainType.{PlainType}
use Rattle.yettuvam_wgsl_types.specs.declared.types.PlainType.TheVariants as plain
use Rattle.yettuvam_wgsl_predeclared.specs.declared.words.Generic.{Generic}
use Rattle.yettuvam_wgsl_predeclared.specs.declared.words.Generic.TheVariants as generic

-- the text of a word; of bytes that are no text, none
unfoldable pub word_of : List ℕ → Name
word_of text = if is_utf8 text then text else []

-- what a word means in a scope where nothing hides its predeclared meaning
unfoldable pub predeclared : Name → Option Predeclared
predeclared name = meaning predeclared_rows name

-- ---- the codes of types without and with template arguments: the scalar type of a vector or a matrix stands above its sizes

abbrev pub vector_unit : ℕ
vector_unit = 16

abbrev pub matrix_unit : ℕ
matrix_unit = 256

-- sampled textures, then depth textures and external ones, then storage textures
abbrev pub first_plain_texture : ℕ
first_plain_texture = 8

abbrev pub first_storage_texture : ℕ
first_storage_texture = 14

abbrev pub plain_vector : ℕ → Option PlainType
plain_vector code = if nat_le vector_unit code then Some (plain.Vector code) else None

abbrev pub plain_matrix : ℕ → Option PlainType
plain_matrix code = if nat_le matrix_unit code then Some (plain.Matrix code) else None

abbrev pub plain_texture : ℕ → Option PlainType
plain_texture code =
    if nat_le first_plain_texture code && nat_lt code first_storage_texture then Some (plain.Image code) else None

abbrev pub plain_of : Predeclared → Option PlainType
plain_of (word.Scalar code) = Some (plain.Scalar code)
plain_of (word.Vector code) = plain_vector code
plain_of (word.Matrix code) = plain_matrix code
plain_of (word.Texture code) = plain_texture code
plain_of (word.Sampler code) = Some (plain.Sampler code)
plain_of _ = None

abbrev pub generic_vector : ℕ → Option Generic
generic_vector code = if nat_lt code vector_unit then Some (generic.Vector code) else None

abbrev pub generic_matrix : ℕ → Option Generic
generic_matrix code = if nat_lt code matrix_unit then Some (generic.Matrix code) else None

abbrev pub generic_texture : ℕ → Option Generic
generic_texture code =
    if nat_lt code first_plain_texture then Some (generic.Sampled code)
    else (if nat_le first_storage_texture code then Some (generic.Storage code) else None)

abbrev pub generic_function : ℕ → Option Generic
generic_function code = if code == BITCAST then Some generic.Bitcast else None

abbrev pub generic_of : Predeclared → Option Generic
generic_of (word.Vector code) = generic_vector code
generic_of (word.Matrix code) = generic_matrix code
generic_of word.Array = Some generic.Array
generic_of word.BindingArray = Some generic.BindingArray
generic_of word.Atomic = Some generic.Atomic
generic_of word.Pointer = Some generic.Pointer
generic_of (word.Texture code) = generic_texture code
generic_of (word.Function code) = generic_function code
generic_of _ = None

abbrev pub plain_if : Option Predeclared → Option PlainType
plain_if (Some w) = plain_of w
plain_if None = None

abbrev pub generic_if : Option Predeclared → Option Generic
generic_if (Some w) = generic_of w
generic_if None = None

-- the predeclared type of a name, if it takes no template arguments
unfoldable pub plain_type : Name → Option PlainType
plain_type name = plain_if (predeclared name)

-- what a name means that takes template arguments
unfoldable pub generic_word : Name → Option Generic
generic_word name = generic_if (predeclared name)

abbrev pub space_of : Option Predeclared → Option ℕ
space_of (Some (word.AddressSpace code)) = Some code
space_of _ = None

abbrev pub access_of : Option Predeclared → Option ℕ
access_of (Some (word.Access code)) = Some code
access_of _ = None

abbrev pub format_of : Option Predeclared → Option ℕ
format_of (Some (word.TexelFormat code)) = Some code
format_of _ = None

unfoldable pub space : Name → Option ℕ
space name = space_of (predeclared name)

unfoldable pub access : Name → Option ℕ
access name = access_of (predeclared name)

unfoldable pub format : Name → Option ℕ
format name = format_of (predeclared name)
