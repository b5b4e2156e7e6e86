-- Worked rows: calls with and without a result, zeros and parts, casts, a barrier, atomics, and the component of a gather.
use Rattle.std.specs.Prelude.{◌≡◌, ℕ, true, false, List, [], ◌∷◌, map, Some, None, Ok, Err, refl}
use Rattle.naga_oil_ir.specs.Body.{Tokens}
use Rattle.naga_oil_ir.specs.Parts.{Parts, expr}
use Rattle.naga_oil_ir.specs.Rows.{Row}
use Rattle.naga_oil_ir.specs.declared.parts.Named.TheVariants.{TypeOf, Nothing as NoName}
use Rattle.naga_oil_ir.specs.declared.tokens.Token.TheVariants.{At, Head, Plain as PlainToken, Callee as CalleeToken, Use, Absent as AbsentToken, Give as GiveToken, GiveCall}
use Rattle.naga_oil_ir.specs.declared.types.ArraySize.TheVariants as size
use Rattle.yettuvam_wgsl_arguments.specs.Arguments.{handles, handle_at, operand_at, number_at, math_number, conversion}
use Rattle.yettuvam_wgsl_arguments.specs.BuiltIns as arguments
use Rattle.yettuvam_wgsl_arguments.specs.BuiltIns.{atomic, plain_atomic}
use Rattle.yettuvam_wgsl_arguments.specs.Textures.{component_of}
use Rattle.yettuvam_wgsl_machine.specs.Machine.{Node}
use Rattle.yettuvam_wgsl_machine.specs.declared.symbol.Form.TheVariants as form
use Rattle.yettuvam_wgsl_operators.specs.Operators.{give_computed}
use Rattle.yettuvam_wgsl_predeclared.specs.Functions.{takes}
use Rattle.yettuvam_wgsl_predeclared.specs.declared.words.Generic.TheVariants as generic
use Rattle.yettuvam_wgsl_scope.specs.Items.{Name}
use Rattle.yettuvam_wgsl_scope.specs.Refused.{◌>>=◌, fault}
use Rattle.yettuvam_wgsl_scope.specs.declared.refusal.Reason.TheVariants as reason
use Rattle.yettuvam_wgsl_shape.specs.Operators.{greatest}
use Rattle.yettuvam_wgsl_types.specs.SameRow.{same_row}
use Rattle.yettuvam_wgsl_types.specs.Types as types
use Rattle.yettuvam_wgsl_types.specs.Types.{intern, row_at}
use Rattle.yettuvam_wgsl_types.specs.declared.shape.Shape.TheVariants as shape
use Rattle.yettuvam_wgsl_types.specs.declared.types.PlainType.TheVariants.{Scalar}
use Rattle.yettuvam_wgsl_values.specs.Body.{State, Done, begin, enter, span_of, compute, put, flush, state, give, take_value}
use Rattle.yettuvam_wgsl_values.specs.Body as body
use Rattle.yettuvam_wgsl_values.specs.Value.{Value, Plain, Callee, bare, shaped}
use Rattle.yettuvam_wgsl_values.specs.declared.value.Returns.TheVariants as returns
use Rattle.yettuvam_wgsl_calls.specs.BuiltIns.{built_in, by_class, result_type, result_shape, math_shape, math, barrier, write_atomic, atomic_statement, atomic_value, give_atomic, put_atomic}
use Rattle.yettuvam_wgsl_calls.specs.Calls.{call, call_end, called, call_function, call_value, call_nothing, state_call, built_in_if}
use Rattle.yettuvam_wgsl_calls.specs.Constructors.{construct, zero, compose, composed, give_of, array_of, construct_array, construct_word, bitcast}
use Rattle.yettuvam_wgsl_calls.specs.Textures.{sample_texture, is_depth_first, gather}

abbrev node : Node
node = record { form = form.Name; span = record { start = 3; end = 4 }; text = [] }

-- in a function of which nothing is read yet
abbrev function_start : State
function_start = enter (begin [])

abbrev values_after : Done → List Value
values_after (Ok p) = p.1.values
values_after (Err e) = []

abbrev body_after : Done → Tokens
body_after (Ok p) = p.1.body
body_after (Err e) = []

abbrev expressions_after : Done → List Parts
expressions_after (Ok p) = map (λ e. e.0) p.1.expressions
expressions_after (Err e) = []

abbrev types_after : Done → List Row
types_after (Ok p) = map (λ e. e.0) p.1.types.types
types_after (Err e) = []

abbrev at : ℕ → Value
at place = bare (Plain place)

-- ---- functions of the module

-- f(a), where f is the third function and returns a value: a statement that gives the expression of its result
abbrev a_call : Done
a_call = give (bare (Callee 2 (returns.Value shape.Plain))) function_start >>= (λ _ s. call false s >>= (λ _ t. give (at 8) t >>= (λ _. call_end node)))

a_call_with_a_result : body_after a_call ≡ At (span_of node.span) ∷ Head 16 ∷ CalleeToken 2 ∷ Use 8 ∷ GiveCall 2 0 ∷ []
unfolding give call call_end body.arguments take_value called call_function call_value put flush compute state_call state handles
a_call_with_a_result = refl

the_result_of_a_call : values_after a_call ≡ shaped (Plain 0) shape.Plain ∷ []
unfolding give call call_end body.arguments take_value called call_function call_value put flush compute state_call state handles
the_result_of_a_call = refl

a_call_without_a_result : body_after (call_function 2 returns.Nothing (at 8 ∷ []) node function_start) ≡ At (span_of node.span) ∷ Head 16 ∷ CalleeToken 2 ∷ Use 8 ∷ AbsentToken ∷ []
unfolding call_function call_nothing state_call state flush handles give
a_call_without_a_result = refl

a_value_is_no_function : called (Plain 0) false [] node function_start ≡ Err (fault reason.NoFunction node.span)
unfolding called
a_value_is_no_function = refl

-- ---- values of types

the_zero_of_a_type : expressions_after (construct 3 [] node function_start) ≡ expr 1 [] (TypeOf 3) [] ∷ []
unfolding construct zero put flush compute give_of give types.shape_of
the_zero_of_a_type = refl

a_value_of_its_parts : expressions_after (construct 3 (at 8 ∷ at 9 ∷ []) node function_start) ≡ expr 13 [] (TypeOf 3) (Some 8 ∷ Some 9 ∷ []) ∷ []
unfolding construct compose conversion types.scalar_of composed handles compute give_of give types.shape_of
a_value_of_its_parts = refl

-- array(a, b)
an_array_of_two : types_after (construct_word generic.Array (at 8 ∷ at 9 ∷ []) node function_start) ≡ types.plain_row (Scalar 0) ∷ types.array_row 0 (size.Constant 2) ∷ []
unfolding construct_word construct_array array_of types.type_of types.plain types.array intern same_row construct compose conversion types.scalar_of row_at composed handles compute give_of give types.shape_of
an_array_of_two = refl

a_pointer_has_no_values : construct_word generic.Pointer (at 8 ∷ []) node function_start ≡ Err (fault reason.Template node.span)
unfolding construct_word
a_pointer_has_no_values = refl

-- the bits of one value, which aren't converted
the_bits_of_a_value : expressions_after (bitcast 34 (at 8 ∷ []) node function_start) ≡ expr 28 (34 ∷ 0 ∷ []) NoName (Some 8 ∷ []) ∷ []
unfolding bitcast give_computed compute give
the_bits_of_a_value = refl

no_bits_of_two_values : bitcast 34 (at 8 ∷ at 9 ∷ []) node function_start ≡ Err (fault reason.Arguments node.span)
unfolding bitcast
no_bits_of_two_values = refl

-- ---- built-in functions

abbrev word : Name
word = record { text = []; span = node.span }

-- max takes two arguments
too_many_arguments : built_in_if (Some (record { code = 294; least = 2; most = 2 })) word false (at 7 ∷ at 8 ∷ at 9 ∷ []) node function_start ≡ Err (fault reason.Arguments node.span)
unfolding takes
too_many_arguments = refl

-- workgroupBarrier()
a_barrier : body_after (barrier 1794 node function_start) ≡ At (span_of node.span) ∷ Head 8 ∷ PlainToken 1794 ∷ []
unfolding barrier state flush give
a_barrier = refl

-- atomicSub as a statement has no result
an_atomic_statement : body_after (write_atomic 1538 true (at 8 ∷ at 9 ∷ []) node function_start) ≡ At (span_of node.span) ∷ Head 13 ∷ PlainToken 1538 ∷ AbsentToken ∷ Use 8 ∷ Use 9 ∷ AbsentToken ∷ []
unfolding write_atomic atomic_statement atomic plain_atomic operand_at handle_at state flush give
an_atomic_statement = refl

-- as a value it has one, of a type that is not known
abbrev an_atomic_value : Done
an_atomic_value = built_in 1538 false (at 8 ∷ at 9 ∷ []) node function_start

an_atomic_with_a_result : body_after an_atomic_value ≡ At (span_of node.span) ∷ Head 13 ∷ PlainToken 1538 ∷ AbsentToken ∷ Use 8 ∷ Use 9 ∷ GiveToken 0 ∷ []
unfolding built_in by_class write_atomic atomic_value result_type types.plain intern same_row give_atomic put_atomic put compute types.shape_of atomic plain_atomic operand_at handle_at state flush give
an_atomic_with_a_result = refl

the_result_of_an_atomic : expressions_after an_atomic_value ≡ expr 8 (0 ∷ []) (TypeOf 0) [] ∷ []
unfolding built_in by_class write_atomic atomic_value result_type types.plain intern same_row give_atomic put_atomic put compute types.shape_of atomic plain_atomic operand_at handle_at state flush give
the_result_of_an_atomic = refl

-- max(a, b)
a_maximum : expressions_after (built_in 294 false (at 8 ∷ at 9 ∷ []) node function_start) ≡ expr 27 (294 ∷ []) NoName (Some 8 ∷ Some 9 ∷ None ∷ None ∷ []) ∷ []
unfolding built_in by_class math math_shape arguments.math operand_at handle_at compute math_number number_at greatest give
a_maximum = refl

-- modf returns a struct, whose type is new
the_shape_of_modf : values_after (math 297 (at 8 ∷ []) node function_start) ≡ shaped (Plain 0) (shape.Of 0) ∷ []
unfolding math math_shape result_shape result_type types.plain intern same_row arguments.math operand_at handle_at compute math_number give
the_shape_of_modf = refl

-- textureGather of a texture without depths, whose first argument has to be a component that is known
no_component : sample_texture 1031 (at 8 ∷ at 9 ∷ []) node function_start ≡ Err (fault reason.NoConstant node.span)
unfolding sample_texture is_depth_first types.image_of gather component_of
no_component = refl
