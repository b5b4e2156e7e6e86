-- Names for the kinds of expressions, for codes of functions and for conversions.
use Rattle.std.specs.Prelude.{ℕ}

-- ---- kinds of expressions: their places in `Expression`, from 0

abbrev pub literal_kind : ℕ
literal_kind = 0

abbrev pub zero_value_kind : ℕ
zero_value_kind = 1

abbrev pub constant_kind : ℕ
constant_kind = 2

abbrev pub override_kind : ℕ
override_kind = 3

abbrev pub global_kind : ℕ
global_kind = 4

abbrev pub local_kind : ℕ
local_kind = 5

abbrev pub argument_kind : ℕ
argument_kind = 6

abbrev pub compose_kind : ℕ
compose_kind = 13

abbrev pub access_kind : ℕ
access_kind = 14

abbrev pub member_kind : ℕ
member_kind = 15

abbrev pub splat_kind : ℕ
splat_kind = 16

abbrev pub swizzle_kind : ℕ
swizzle_kind = 17

abbrev pub load_kind : ℕ
load_kind = 18

abbrev pub sample_kind : ℕ
sample_kind = 19

abbrev pub texel_kind : ℕ
texel_kind = 20

abbrev pub query_kind : ℕ
query_kind = 21

abbrev pub unary_kind : ℕ
unary_kind = 22

abbrev pub binary_kind : ℕ
binary_kind = 23

abbrev pub select_kind : ℕ
select_kind = 24

abbrev pub derivative_kind : ℕ
derivative_kind = 25

abbrev pub relational_kind : ℕ
relational_kind = 26

abbrev pub math_kind : ℕ
math_kind = 27

abbrev pub conversion_kind : ℕ
conversion_kind = 28

abbrev pub array_length_kind : ℕ
array_length_kind = 29

-- ---- codes of built-in functions

abbrev pub frexp_code : ℕ
frexp_code = 287

abbrev pub modf_code : ℕ
modf_code = 297

abbrev pub texture_dimensions_code : ℕ
texture_dimensions_code = 1280

abbrev pub texture_load_code : ℕ
texture_load_code = 1281

-- ---- parts of codes

-- the conversion of `bitcast`; the others copy a value
abbrev pub bitcast_conversion : ℕ
bitcast_conversion = 0

-- the component of a `textureGather`, plus 1; the first part is the code of the function
abbrev pub component_unit : ℕ
component_unit = 65536

-- the space of textures and samplers
abbrev pub handle_space : ℕ
handle_space = 5

-- the marks of a `let` and of a `const` with a type
abbrev pub typed_let : ℕ
typed_let = 65

abbrev pub typed_const : ℕ
typed_const = 66
