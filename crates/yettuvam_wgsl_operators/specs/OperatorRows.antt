-- Worked rows: literals and sums, pointers, letters, and a right side with and without effects.
use Rattle.std.specs.Prelude.{◌≡◌, ℕ, ◌+◌, ◌*◌, List, [], ◌∷◌, ◌++◌, map, pos, Some, None, Ok, Err, codes, refl}
use Rattle.naga_oil_ir.specs.Body.{Tokens, inside}
use Rattle.naga_oil_ir.specs.Kinds.{emit_head}
use Rattle.naga_oil_ir.specs.Parts.{Parts, expr}
use Rattle.naga_oil_ir.specs.declared.parts.Named.TheVariants.{Nothing}
use Rattle.naga_oil_ir.specs.declared.tokens.Token.TheVariants.{At, Head, Emitted, Use}
use Rattle.yettuvam_wgsl_words.specs.Class.{Text}
use Rattle.yettuvam_wgsl_words.specs.declared.token.Span.{Span}
use Rattle.yettuvam_wgsl_machine.specs.Machine.{Node}
use Rattle.yettuvam_wgsl_machine.specs.declared.symbol.Form.TheVariants as form
use Rattle.yettuvam_wgsl_predeclared.specs.Letters.{letter_number, swizzle_pattern}
use Rattle.yettuvam_wgsl_scope.specs.Refused.{◌>>=◌, fault}
use Rattle.yettuvam_wgsl_scope.specs.declared.refusal.Reason.TheVariants as reason
use Rattle.yettuvam_wgsl_shape.specs.Literals.{literal_of}
use Rattle.yettuvam_wgsl_shape.specs.Operators.{binary_number}
use Rattle.yettuvam_wgsl_shape.specs.declared.number.Number.TheVariants.{Untyped, Signed}
use Rattle.yettuvam_wgsl_types.specs.Types.{member, plain, intern}
use Rattle.yettuvam_wgsl_types.specs.declared.shape.Shape.TheVariants as shape
use Rattle.yettuvam_wgsl_values.specs.Body.{State, Done, begin, enter, span_of, number_value, give, take_value, settle, settled, operand, left, load, flush, state, compute, put, open_, close, unfold_}
use Rattle.yettuvam_wgsl_values.specs.Value.{Value, Place, Pointer, Plain, Literal, shaped}
use Rattle.yettuvam_wgsl_operators.specs.Circuits.{circuit, circuit_end, unguarded, guarded, unnamed_local, put_local, store, stores, if_stored, give_read}
use Rattle.yettuvam_wgsl_operators.specs.Members as members
use Rattle.yettuvam_wgsl_operators.specs.Members.{address_of, dereference, member_of, member_by, by_letters, component, numbered_part, whole, part, swizzle, swizzle_by, read_whole}
use Rattle.yettuvam_wgsl_operators.specs.Operators.{number, binary, give_computed, with_effect}

abbrev here : Span
here = record { start = 3; end = 4 }

abbrev node_of : Text → Node
node_of text = record { form = form.Name; span = here; text = text }

abbrev node : Node
node = node_of []

-- in a function of which nothing is read yet
abbrev function_start : State
function_start = enter (begin [])

abbrev values_after : Done → List Value
values_after (Ok p) = p.1.values
values_after (Err e) = []

abbrev body_after : Done → Tokens
body_after (Ok p) = p.1.body
body_after (Err e) = []

abbrev expressions_after : Done → List Parts
expressions_after (Ok p) = map (λ e. e.0) p.1.expressions
expressions_after (Err e) = []

-- ---- literals and sums

a_literal_is_no_expression : values_after (number (node_of (codes "42")) function_start) ≡ number_value (Literal 1 42) shape.Plain (Some (Untyped (pos 42))) ∷ []
unfolding number literal_of give
a_literal_is_no_expression = refl

abbrev known : ℕ → ℕ → Value
known place n = number_value (Plain place) shape.Plain (Some (Signed (pos n)))

-- 40i - 2i: the right side is the last value
a_difference : values_after (give (known 8 40) function_start >>= (λ _ s. give (known 9 2) s >>= (λ _. binary 2 node))) ≡ known 0 38 ∷ []
unfolding give binary settled take_value settle binary_number give_computed compute
a_difference = refl

the_operands_of_a_difference : expressions_after (give (known 8 40) function_start >>= (λ _ s. give (known 9 2) s >>= (λ _. binary 2 node))) ≡ expr 23 (2 ∷ []) Nothing (Some 8 ∷ Some 9 ∷ []) ∷ []
unfolding give binary settled take_value settle binary_number give_computed compute
the_operands_of_a_difference = refl

abbrev untyped : ℕ → ℕ → Value
untyped place n = number_value (Plain place) shape.Plain (Some (Untyped (pos n)))

-- 9223372036854775807 + 1, which no AbstractInt is
a_sum_that_does_not_fit : give (untyped 8 9223372036854775807) function_start >>= (λ _ s. give (untyped 9 1) s >>= (λ _. binary 1 node)) ≡ Err (fault reason.NoNumber here)
unfolding give binary settled take_value settle binary_number
a_sum_that_does_not_fit = refl

-- ---- pointers and parts

abbrev at_place : ℕ → Value
at_place place = shaped (Place place) shape.Plain

the_pointer_to_a_place : values_after (give (at_place 8) function_start >>= (λ _. address_of node)) ≡ shaped (Pointer 8) shape.Plain ∷ []
unfolding give address_of take_value
the_pointer_to_a_place = refl

no_pointer_to_a_value : give (shaped (Plain 8) shape.Plain) function_start >>= (λ _. address_of node) ≡ Err (fault reason.NoReference here)
unfolding give address_of take_value
no_pointer_to_a_value = refl

-- a.y of a place is a place, which isn't read
a_component : expressions_after (give (at_place 8) function_start >>= (λ _. members.member (node_of (codes "y")))) ≡ expr 15 (1 ∷ []) Nothing (Some 8 ∷ []) ∷ []
unfolding give members.member take_value member_of member member_by by_letters component letter_number numbered_part whole part compute
a_component = refl

-- a.zyx of a place is read: its third, second and first component
a_swizzle : expressions_after (give (at_place 8) function_start >>= (λ _. members.member (node_of (codes "zyx")))) ≡ expr 18 [] Nothing (Some 8 ∷ []) ∷ expr 17 (3 ∷ (2 + 4 * 1 + 16 * 0) ∷ []) Nothing (Some 0 ∷ []) ∷ []
unfolding give members.member take_value member_of member member_by by_letters swizzle swizzle_pattern swizzle_by read_whole settle load give_computed compute
a_swizzle = refl

-- ---- && and ||

abbrev value_at : ℕ → Value
value_at place = shaped (Plain place) shape.Plain

-- a && b, where b has no effects, is one operation
no_effects_are_not_guarded : expressions_after (give (value_at 8) function_start >>= (λ _ s. circuit node s >>= (λ _ t. give (value_at 9) t >>= (λ _. circuit_end 17 node)))) ≡ expr 23 (17 ∷ []) Nothing (Some 8 ∷ Some 9 ∷ []) ∷ []
unfolding give circuit left settled take_value settle open_ flush circuit_end unguarded unfold_ binary binary_number give_computed compute
no_effects_are_not_guarded = refl

-- a && f(): an If of a, in whose block the value of f() is stored
effects_are_guarded : body_after (give (value_at 8) function_start >>= (λ _ s. circuit node s >>= (λ _ t. give (value_at 9) (with_effect t) >>= (λ _. circuit_end 17 node)))) ≡ (At (span_of here) ∷ Head 11 ∷ Use 0 ∷ Use 8 ∷ At (span_of here) ∷ Head emit_head ∷ Emitted (1, 2) ∷ At (span_of here) ∷ Head 2 ∷ Use 1 ∷ []) ++ inside (At (span_of here) ∷ Head 11 ∷ Use 0 ∷ Use 9 ∷ []) ++ inside []
unfolding give circuit left settled take_value settle open_ flush circuit_end guarded operand put_local unnamed_local plain intern put compute stores store state close if_stored give_read load
effects_are_guarded = refl
