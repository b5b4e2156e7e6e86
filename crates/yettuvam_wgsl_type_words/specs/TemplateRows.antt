-- Worked rows: vectors, arrays and address spaces, sizes, casts, and values that are no types.
use lib.Utf8.{encode}
use Rattle.std.specs.Prelude.{◌≡◌, ◌+◌, ◌*◌, List, [], ◌∷◌, map, pos, Some, Ok, Err, codes, refl}
use Rattle.std.specs.Str.{chars, is_utf8}
use Rattle.naga_oil_ir.specs.Rows.{Row}
use Rattle.naga_oil_ir.specs.declared.types.ArraySize.TheVariants as size
use Rattle.yettuvam_wgsl_arguments.specs.Arguments.{known_size}
use Rattle.yettuvam_wgsl_arguments.specs.Words.{argument, word_at, space_argument, optional_access, space_arguments}
use Rattle.yettuvam_wgsl_machine.specs.Machine.{Node}
use Rattle.yettuvam_wgsl_machine.specs.declared.symbol.Form.TheVariants as form
use Rattle.yettuvam_wgsl_predeclared.specs.Words.{word_of, predeclared, space}
use Rattle.yettuvam_wgsl_predeclared.specs.declared.words.Generic.TheVariants as generic
use Rattle.yettuvam_wgsl_scope.specs.Items.{Name}
use Rattle.yettuvam_wgsl_scope.specs.Refused.{Outcome, ◌>>=◌, fault}
use Rattle.yettuvam_wgsl_scope.specs.declared.refusal.Reason.TheVariants as reason
use Rattle.yettuvam_wgsl_shape.specs.declared.number.Number.TheVariants.{Signed}
use Rattle.yettuvam_wgsl_types.specs.SameRow.{same_row}
use Rattle.yettuvam_wgsl_types.specs.Types as types
use Rattle.yettuvam_wgsl_types.specs.Types.{intern, row_at, scalar_of, bits_of}
use Rattle.yettuvam_wgsl_types.specs.declared.shape.Shape.TheVariants as shape
use Rattle.yettuvam_wgsl_types.specs.declared.types.PlainType.TheVariants.{Scalar, Vector}
use Rattle.yettuvam_wgsl_values.specs.Body.{State, Done, begin, enter, in_types, number_value, give, take_value, arguments, settle}
use Rattle.yettuvam_wgsl_values.specs.Value.{Value, Plain, Override, TypeAt, Word, Cast, NoSpace, Space, bare}
use Rattle.yettuvam_wgsl_type_words.specs.Types.{type_of, type_argument, scalar_argument, size_of, unknown_size, pending_size, unnamed, unnamed_override, size_argument}
use Rattle.yettuvam_wgsl_type_words.specs.Templates.{template, template_end, template_of, word_template, variable_space, give_type, plain, array, of_scalar, with_code, cast}

abbrev node : Node
node = record { form = form.Name; span = record { start = 3; end = 4 }; text = [] }

-- a module whose first type is f32
abbrev with_f32 : Done
with_f32 = in_types (types.plain (Scalar 4)) (begin []) >>= give_type

abbrev rows_after : Done → List Row
rows_after (Ok p) = map (λ e. e.0) p.1.types.types
rows_after (Err e) = []

abbrev f32 : Value
f32 = bare (TypeAt 0)

abbrev values_after : Done → List Value
values_after (Ok p) = p.1.values
values_after (Err e) = []

abbrev overrides_after : {A : Type 0} → Outcome State A → List Row
overrides_after (Ok p) = map (λ e. e.0) p.1.overrides
overrides_after (Err e) = []

-- the size 8i
abbrev eight : Value
eight = number_value (Plain 0) shape.Plain (Some (Signed (pos 8)))

-- vec3<f32>
a_vector : rows_after (with_f32 >>= (λ _. of_scalar (generic.Vector 3) (f32 ∷ []) node)) ≡ types.plain_row (Scalar 4) ∷ types.plain_row (Vector (3 + 16 * 4)) ∷ []
unfolding types.plain intern same_row give_type give of_scalar scalar_argument type_argument argument type_of scalar_of row_at plain
a_vector = refl

-- array<f32, 8>, and array<f32> of any length
an_array : rows_after (with_f32 >>= (λ _. array (f32 ∷ eight ∷ []) node)) ≡ types.plain_row (Scalar 4) ∷ types.array_row 0 (size.Constant 8) ∷ []
unfolding types.plain intern same_row give_type give array type_argument argument type_of size_argument size_of known_size types.array
an_array = refl

an_array_of_any_length : rows_after (with_f32 >>= (λ _. array (f32 ∷ []) node)) ≡ types.plain_row (Scalar 4) ∷ types.array_row 0 size.Dynamic ∷ []
unfolding types.plain intern same_row give_type give array type_argument argument type_of size_argument types.array
an_array_of_any_length = refl

a_number_is_no_type : type_of eight node (begin []) ≡ Err (fault reason.NoType node.span)
unfolding type_of
a_number_is_no_type = refl

-- in a function a pipeline computes no size
no_pending_size_in_functions : size_of (bare (Plain 0)) node (enter (begin [])) ≡ Err (fault reason.NoConstant node.span)
unfolding size_of unknown_size pending_size
no_pending_size_in_functions = refl

-- outside of functions it does: an override without a name
a_pending_size : overrides_after (size_of (bare (Plain 5)) node (begin [])) ≡ unnamed 0 5 ∷ []
unfolding size_of unknown_size pending_size settle unnamed_override types.plain intern same_row
a_pending_size = refl

the_size_of_an_override : size_of (bare (Override 3)) node (begin []) ≡ Ok (size.Pending 3, begin [])
unfolding size_of unknown_size
the_size_of_an_override = refl

-- bitcast<f32>: 16 times the scalar type, as in the code of a vector
a_cast : values_after (with_f32 >>= (λ _. cast (f32 ∷ []) node)) ≡ f32 ∷ bare (Cast 64) ∷ []
unfolding types.plain intern same_row give_type give cast type_argument argument type_of bits_of row_at
a_cast = refl

-- a storage texture with the code 15, of the texel format 22 and the access mode 2
a_storage_texture : with_code (with_code 15 256 22) 65536 2 ≡ 15 + 256 * 22 + 65536 * 2
a_storage_texture = refl

-- ---- whole lists

abbrev private : Name
private = record { text = codes "private"; span = node.span }

-- var<private>
a_variable_in_a_space : values_after (give (bare NoSpace) (begin []) >>= (λ _ s. template s >>= (λ _ t. give (bare (Word private)) t >>= (λ _. template_end node)))) ≡ bare (Space 1) ∷ []
unfolding give template template_end arguments take_value template_of variable_space space_arguments space_argument optional_access word_at argument word_of chars is_utf8 encode predeclared space
a_variable_in_a_space = refl

a_type_takes_no_template : with_f32 >>= (λ _ s. template s >>= (λ _ t. give f32 t >>= (λ _. template_end node))) ≡ Err (fault reason.Template node.span)
unfolding types.plain intern same_row give_type give template template_end arguments take_value template_of
a_type_takes_no_template = refl

-- vec2<f32, f32>
too_many_types : word_template (generic.Vector 2) (f32 ∷ f32 ∷ []) node (begin []) ≡ Err (fault reason.Template node.span)
unfolding word_template
too_many_types = refl

-- var<private, private, private>
too_many_words : variable_space (bare (Word private) ∷ bare (Word private) ∷ bare (Word private) ∷ []) node (begin []) ≡ Err (fault reason.Template node.span)
unfolding variable_space
too_many_words = refl
