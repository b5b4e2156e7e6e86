-- Worked rows: what is emitted, what may stand outside of functions, what is read.
use Rattle.std.specs.Prelude.{◌≡◌, List, [], ◌∷◌, map, Some, Ok, Err, codes, refl}
use Rattle.naga_oil_ir.specs.Body.{Tokens}
use Rattle.naga_oil_ir.specs.Kinds.{emit_head, return_head}
use Rattle.naga_oil_ir.specs.Parts.{Parts, expr}
use Rattle.naga_oil_ir.specs.declared.parts.Named.TheVariants.{Nothing, LocalAt}
use Rattle.naga_oil_ir.specs.declared.tokens.Token.TheVariants.{At, Head, Emitted, Use}
use Rattle.yettuvam_wgsl_words.specs.declared.token.Span.{Span}
use Rattle.yettuvam_wgsl_machine.specs.Machine.{Node}
use Rattle.yettuvam_wgsl_machine.specs.declared.symbol.Form.TheVariants as form
use Rattle.yettuvam_wgsl_scope.specs.Refused.{◌>>=◌, fault}
use Rattle.yettuvam_wgsl_scope.specs.declared.names.Binding.TheVariants as bound_to
use Rattle.yettuvam_wgsl_scope.specs.declared.refusal.Reason.TheVariants as reason
use Rattle.yettuvam_wgsl_types.specs.declared.shape.Shape.TheVariants as shape
use Rattle.yettuvam_wgsl_values.specs.Body.{State, Done, begin, enter, span_of, flush, state, compute, put, give, take_value, settle, settled, load, operand, know, name, put_place}
use Rattle.yettuvam_wgsl_values.specs.declared.value.Meaning.TheVariants as means

abbrev place_of_x : Span
place_of_x = record { start = 3; end = 4 }

abbrev x : Node
x = record { form = form.Name; span = place_of_x; text = codes "x" }

-- in a function of which nothing is read yet
abbrev function_start : State
function_start = enter (begin [])

abbrev body_after : Done → Tokens
body_after (Ok p) = p.1.body
body_after (Err e) = []

abbrev expressions_after : Done → List Parts
expressions_after (Ok p) = map (λ e. e.0) p.1.expressions
expressions_after (Err e) = []

abbrev negation : Parts
negation = expr 22 (1 ∷ []) Nothing (Some 0 ∷ [])

-- an operation is emitted before the statement that uses it
an_operation_is_emitted : body_after (compute negation place_of_x function_start >>= (λ place. state (Head return_head ∷ Use place ∷ []) place_of_x)) ≡ At (span_of place_of_x) ∷ Head emit_head ∷ Emitted (0, 1) ∷ At (span_of place_of_x) ∷ Head return_head ∷ Use 0 ∷ []
unfolding compute state flush
an_operation_is_emitted = refl

no_statement_outside_of_functions : state (Head return_head ∷ []) place_of_x (begin []) ≡ Err (fault reason.NoConstant place_of_x)
unfolding state
no_statement_outside_of_functions = refl

no_variable_outside_of_functions : compute (expr 5 [] (LocalAt 0) []) place_of_x (begin []) ≡ Err (fault reason.NoConstant place_of_x)
unfolding compute
no_variable_outside_of_functions = refl

-- the name of a variable gives its place, and where a value is wanted the place is read
a_variable_is_read : expressions_after (know (means.Variable 2 shape.Plain) function_start >>= (λ _ s. name x (bound_to.Local 0) s >>= (λ _ t. operand x t >>= (λ _. know means.Entry)))) ≡ expr 5 [] (LocalAt 2) [] ∷ expr 18 [] Nothing (Some 0 ∷ []) ∷ []
unfolding know name put_place put flush compute give operand settled take_value settle load
a_variable_is_read = refl
