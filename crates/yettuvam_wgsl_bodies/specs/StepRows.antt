-- Worked rows: what forms do, and the steps of literals, words and jumps.
use Rattle.std.specs.Prelude.{◌≡◌, true, List, [], ◌∷◌, pos, Some, Ok, Err, codes, refl}
use Rattle.naga_oil_ir.specs.Body.{Tokens}
use Rattle.naga_oil_ir.specs.declared.tokens.Token.TheVariants as token
use Rattle.yettuvam_wgsl_words.specs.declared.token.Span.{Span}
use Rattle.yettuvam_wgsl_machine.specs.declared.symbol.Form.{Form}
use Rattle.yettuvam_wgsl_machine.specs.declared.symbol.Form.TheVariants as form
use Rattle.yettuvam_wgsl_operators.specs.Operators.{literal}
use Rattle.yettuvam_wgsl_scope.specs.Names.{Bound}
use Rattle.yettuvam_wgsl_scope.specs.Refused.{fault}
use Rattle.yettuvam_wgsl_scope.specs.declared.names.Binding.{Binding}
use Rattle.yettuvam_wgsl_scope.specs.declared.names.Binding.TheVariants as bound_to
use Rattle.yettuvam_wgsl_scope.specs.declared.refusal.Reason.TheVariants as reason
use Rattle.yettuvam_wgsl_shape.specs.declared.number.Number.TheVariants.{Truth, Untyped}
use Rattle.yettuvam_wgsl_types.specs.declared.shape.Shape.TheVariants as shape
use Rattle.yettuvam_wgsl_values.specs.Body.{State, Done, begin, enter, span_of, number_value, flush, state, give, name}
use Rattle.yettuvam_wgsl_values.specs.Value.{Value, Literal, Word, bare}
use Rattle.yettuvam_wgsl_bodies.specs.Acts.{act_of}
use Rattle.yettuvam_wgsl_bodies.specs.Step.{step, expression, declaration, control}
use Rattle.yettuvam_wgsl_bodies.specs.declared.acts.Act.TheVariants as act

-- ---- what forms do

a_shift_by_its_code : act_of form.ShiftRight ≡ act.Binary 10
a_shift_by_its_code = refl

an_or_ends : act_of form.Or ≡ act.CircuitEnd 18
an_or_ends = refl

a_call_whose_result_is_dropped : act_of form.StatementCall ≡ act.Call true
a_call_whose_result_is_dropped = refl

the_start_of_an_index_does_nothing : act_of form.IndexStart ≡ act.Nothing
the_start_of_an_index_does_nothing = refl

-- ---- steps

abbrev here : Span
here = record { start = 3; end = 4 }

abbrev bound : Form → Binding → Bound
bound form binding = record { node = record { form = form; span = here; text = codes "x" }; binding = binding }

-- in a function of which nothing is read yet
abbrev function_start : State
function_start = enter (begin [])

abbrev values_after : Done → List Value
values_after (Ok p) = p.1.values
values_after (Err e) = []

abbrev body_after : Done → Tokens
body_after (Ok p) = p.1.body
body_after (Err e) = []

a_truth_value : values_after (step (bound form.True bound_to.Nothing) function_start) ≡ number_value (Literal 0 1) shape.Plain (Some (Truth true)) ∷ []
unfolding step expression literal give
a_truth_value = refl

-- the 1 of ++
a_one : values_after (step (bound form.One bound_to.Nothing) function_start) ≡ number_value (Literal 1 1) shape.Plain (Some (Untyped (pos 1))) ∷ []
unfolding step expression literal give
a_one = refl

a_word : values_after (step (bound form.Name bound_to.Word) function_start) ≡ bare (Word (record { text = codes "x"; span = here })) ∷ []
unfolding step expression name give
a_word = refl

a_break : body_after (step (bound form.Break bound_to.Nothing) function_start) ≡ token.At (span_of here) ∷ token.Head 5 ∷ []
unfolding step expression declaration control state flush
a_break = refl

no_break_outside_of_functions : step (bound form.Break bound_to.Nothing) (begin []) ≡ Err (fault reason.NoConstant here)
unfolding step expression declaration control state
no_break_outside_of_functions = refl
