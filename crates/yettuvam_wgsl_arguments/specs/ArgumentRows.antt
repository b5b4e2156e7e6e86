-- Worked rows: arguments that are there and that are left out, sizes, a choice, a texel, words.
use Rattle.std.specs.Prelude.{◌≡◌, ℕ, ◌+◌, ◌*◌, List, [], ◌∷◌, pos, negsuc, Some, None, Ok, Err, refl}
use Rattle.naga_oil_ir.specs.Parts.{expr}
use Rattle.naga_oil_ir.specs.declared.parts.Named.TheVariants.{Nothing}
use Rattle.naga_oil_ir.specs.declared.types.ArraySize.TheVariants as size
use Rattle.yettuvam_wgsl_machine.specs.Machine.{Node}
use Rattle.yettuvam_wgsl_machine.specs.declared.symbol.Form.TheVariants as form
use Rattle.yettuvam_wgsl_predeclared.specs.Textures.{is_arrayed, is_multisampled}
use Rattle.yettuvam_wgsl_scope.specs.Refused.{fault}
use Rattle.yettuvam_wgsl_scope.specs.declared.refusal.Reason.TheVariants as reason
use Rattle.yettuvam_wgsl_shape.specs.Operators.{greatest}
use Rattle.yettuvam_wgsl_shape.specs.declared.number.Number.TheVariants.{Untyped, Signed}
use Rattle.yettuvam_wgsl_types.specs.declared.shape.Shape.TheVariants as shape
use Rattle.yettuvam_wgsl_values.specs.Value.{Value, Plain, shaped}
use Rattle.yettuvam_wgsl_arguments.specs.Arguments.{handle_at, operand_at, number_at, math_number, known_size}
use Rattle.yettuvam_wgsl_arguments.specs.BuiltIns.{select}
use Rattle.yettuvam_wgsl_arguments.specs.Textures.{operand_in, ends_at, load_of, load}

abbrev call : Node
call = record { form = form.Name; span = record { start = 3; end = 9 }; text = [] }

-- the value of an expression
abbrev at : ℕ → Value
at place = shaped (Plain place) shape.Plain

abbrev three : List Value
three = at 10 ∷ at 11 ∷ at 12 ∷ []

the_second_argument : operand_at three 1 call ≡ Ok 11
unfolding operand_at handle_at
the_second_argument = refl

no_fourth_argument : operand_at three 3 call ≡ Err (fault reason.Arguments call.span)
unfolding operand_at handle_at
no_fourth_argument = refl

-- select(f, t, c): the condition, what is taken if it holds, what is taken else
the_condition_is_last : select three call ≡ Ok (expr 24 [] Nothing (Some 12 ∷ Some 11 ∷ Some 10 ∷ []))
unfolding select operand_at handle_at
the_condition_is_last = refl

abbrev known : ℕ → Value
known n = record { what = Plain 0; shape = shape.Plain; number = Some (Signed (pos n)) }

-- max(3i, 7i)
greatest_of_two : math_number 294 (known 3 ∷ known 7 ∷ []) ≡ Some (Signed (pos 7))
unfolding math_number number_at greatest
greatest_of_two = refl

an_array_of_four : known_size (Signed (pos 4)) call ≡ Ok (size.Constant 4)
unfolding known_size
an_array_of_four = refl

no_array_of_none : known_size (Signed (pos 0)) call ≡ Err (fault reason.NoNumber call.span)
unfolding known_size
no_array_of_none = refl

no_array_of_less : known_size (Untyped (negsuc 0)) call ≡ Err (fault reason.NoNumber call.span)
unfolding known_size
no_array_of_less = refl

-- textureLoad of a texture_2d_array<f32>: the texture, the coordinate, the layer, the level
a_layer_and_a_level : load (3 + 256 * 4) (at 1 ∷ at 2 ∷ at 3 ∷ at 4 ∷ []) call ≡ Ok (expr 20 [] Nothing (Some 1 ∷ Some 2 ∷ Some 3 ∷ None ∷ Some 4 ∷ []))
unfolding load ends_at load_of operand_in handle_at is_arrayed is_multisampled
a_layer_and_a_level = refl

no_layer : load (3 + 256 * 4) (at 1 ∷ at 2 ∷ []) call ≡ Err (fault reason.Arguments call.span)
unfolding load ends_at is_arrayed is_multisampled
no_layer = refl
