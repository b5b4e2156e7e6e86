-- Worked rows: assignments, blocks, loops, assertions, selectors and names.
use Rattle.std.specs.Prelude.{◌≡◌, ℕ, ◌+◌, ◌*◌, ◌^◌, Bool, true, false, List, [], ◌∷◌, map, pos, Some, Ok, Err, codes, refl}
use Rattle.naga_oil_ir.specs.Body.{Tokens}
use Rattle.naga_oil_ir.specs.Parts.{Parts, expr}
use Rattle.naga_oil_ir.specs.declared.parts.Named.TheVariants.{Nothing, TypeOf}
use Rattle.naga_oil_ir.specs.declared.tokens.Token.TheVariants as token
use Rattle.yettuvam_wgsl_words.specs.declared.token.Span.{Span}
use Rattle.yettuvam_wgsl_machine.specs.Machine.{Node}
use Rattle.yettuvam_wgsl_machine.specs.declared.symbol.Form.TheVariants as form
use Rattle.yettuvam_wgsl_scope.specs.Refused.{Outcome, done, fault}
use Rattle.yettuvam_wgsl_scope.specs.declared.refusal.Reason.TheVariants as reason
use Rattle.yettuvam_wgsl_shape.specs.Numbers.{selector_code}
use Rattle.yettuvam_wgsl_shape.specs.declared.number.Number.{Number}
use Rattle.yettuvam_wgsl_shape.specs.declared.number.Number.TheVariants.{Signed, Truth}
use Rattle.yettuvam_wgsl_types.specs.Types as types
use Rattle.yettuvam_wgsl_types.specs.declared.shape.Shape.TheVariants as shape
use Rattle.yettuvam_wgsl_values.specs.Body.{State, begin, enter, span_of, number_value, give, take_value, settle, settled, operand, flush, state, compute}
use Rattle.yettuvam_wgsl_values.specs.Value.{Value, Place, Plain, Default, Absent, bare}
use Rattle.yettuvam_wgsl_values.specs.declared.value.Arm.{Arm}
use Rattle.yettuvam_wgsl_lower_statements.specs.Naming.{takes_name, copy, mark_type, composed, marked}
use Rattle.yettuvam_wgsl_lower_statements.specs.Statements.{store, stored, assign, again, if_end, loop_end, assertion}
use Rattle.yettuvam_wgsl_lower_statements.specs.Switches.{push_arm, selector, fall_through, switch_cases, switch_end}

abbrev here : Span
here = record { start = 3; end = 4 }

abbrev node : Node
node = record { form = form.Name; span = here; text = [] }

-- in a function of which nothing is read yet but some values
abbrev after_values : List Value → State
after_values vs = record (enter (begin [])) { values = vs }

abbrev value_at : ℕ → Value
value_at place = bare (Plain place)

abbrev place_at : ℕ → Value
place_at place = bare (Place place)

abbrev known : Number → Value
known number = number_value (Plain 8) shape.Plain (Some number)

abbrev body_after : {A : Type 0} → Outcome State A → Tokens
body_after (Ok p) = p.1.body
body_after (Err e) = []

abbrev values_after : {A : Type 0} → Outcome State A → List Value
values_after (Ok p) = p.1.values
values_after (Err e) = []

abbrev arms_after : {A : Type 0} → Outcome State A → List Arm
arms_after (Ok p) = p.1.arms
arms_after (Err e) = []

abbrev expressions_after : {A : Type 0} → Outcome State A → List Parts
expressions_after (Ok p) = map (λ e. e.0) p.1.expressions
expressions_after (Err e) = []

-- ---- assignments

-- a = b
an_assignment : body_after (assign node (after_values (place_at 8 ∷ value_at 9 ∷ []))) ≡ token.At (span_of here) ∷ token.Head 11 ∷ token.Use 8 ∷ token.Use 9 ∷ []
unfolding assign operand settled take_value settle stored store state flush
an_assignment = refl

no_assignment_to_a_value : assign node (after_values (value_at 8 ∷ value_at 9 ∷ [])) ≡ Err (fault reason.NoReference here)
unfolding assign operand settled take_value settle stored
no_assignment_to_a_value = refl

-- the target of += is also an operand
a_target_twice : values_after (again node (after_values (place_at 8 ∷ []))) ≡ place_at 8 ∷ place_at 8 ∷ []
unfolding again take_value give
a_target_twice = refl

-- ---- blocks

abbrev break_tokens : Tokens
break_tokens = token.Head 5 ∷ []

abbrev kill_tokens : Tokens
kill_tokens = token.Head 7 ∷ []

abbrev after_blocks : Tokens → Tokens → List Value → State
after_blocks first second vs = record (after_values vs) { whole = first ∷ second ∷ [] }

-- if a { break; } else { discard; }
an_if : body_after (if_end node (after_blocks break_tokens kill_tokens (value_at 8 ∷ []))) ≡ token.At (span_of here) ∷ token.Head 2 ∷ token.Use 8 ∷ token.Open ∷ token.Head 5 ∷ token.Close ∷ token.Open ∷ token.Head 7 ∷ token.Close ∷ []
unfolding if_end operand settled take_value settle state flush
an_if = refl

-- what continues a loop ends before its body does
a_loop : body_after (loop_end node (after_blocks kill_tokens break_tokens (bare Absent ∷ []))) ≡ token.At (span_of here) ∷ token.Head 4 ∷ token.Open ∷ token.Head 5 ∷ token.Close ∷ token.Open ∷ token.Head 7 ∷ token.Close ∷ token.Absent ∷ []
unfolding loop_end take_value state flush
a_loop = refl

a_loop_with_a_condition : body_after (loop_end node (after_blocks kill_tokens break_tokens (value_at 8 ∷ []))) ≡ token.At (span_of here) ∷ token.Head 4 ∷ token.Open ∷ token.Head 5 ∷ token.Close ∷ token.Open ∷ token.Head 7 ∷ token.Close ∷ token.Use 8 ∷ []
unfolding loop_end take_value state flush
a_loop_with_a_condition = refl

-- ---- assertions

a_false_assertion : assertion node (after_values (known (Truth false) ∷ [])) ≡ Err (fault reason.Assertion here)
unfolding assertion settled take_value settle
a_false_assertion = refl

a_true_assertion : assertion node (after_values (known (Truth true) ∷ [])) ≡ done (after_values [])
unfolding assertion settled take_value settle
a_true_assertion = refl

-- whether the value is false isn't known
an_open_assertion : assertion node (after_values (value_at 8 ∷ [])) ≡ done (after_values [])
unfolding assertion settled take_value settle
an_open_assertion = refl

-- ---- switches

abbrev arm : ℕ → Bool → Arm
arm value falls_through = record { value = value; falls_through = falls_through }

-- case 5i
a_selector : arms_after (selector node (after_values (known (Signed (pos 5)) ∷ []))) ≡ arm (3 * 2 ^ 32 + 5) false ∷ []
unfolding selector take_value selector_code push_arm
a_selector = refl

a_default_selector : arms_after (selector node (after_values (bare Default ∷ []))) ≡ arm 0 false ∷ []
unfolding selector take_value push_arm
a_default_selector = refl

no_selector : selector node (after_values (value_at 8 ∷ [])) ≡ Err (fault reason.NoConstant here)
unfolding selector take_value
no_selector = refl

abbrev after_arms : List Arm → State
after_arms arms = record (after_blocks break_tokens kill_tokens (value_at 8 ∷ [])) { arms = arms; switches = 1 ∷ [] }

the_last_arm_falls_through : arms_after (fall_through (after_arms (arm 6 false ∷ arm 7 false ∷ []))) ≡ arm 6 false ∷ arm 7 true ∷ []
unfolding fall_through push_arm
the_last_arm_falls_through = refl

-- the arms of the innermost switch, in the order of the text
a_switch : body_after (switch_end node (after_arms (arm 5 false ∷ arm 6 true ∷ arm 7 false ∷ []))) ≡ token.At (span_of here) ∷ token.Head 3 ∷ token.Use 8 ∷ token.Plain 6 ∷ token.Flag true ∷ token.Open ∷ token.Head 5 ∷ token.Close ∷ token.Plain 7 ∷ token.Flag false ∷ token.Open ∷ token.Head 7 ∷ token.Close ∷ []
unfolding switch_end switch_cases operand settled take_value settle state flush
a_switch = refl

the_outer_arm_stays : arms_after (switch_end node (after_arms (arm 5 false ∷ arm 6 true ∷ arm 7 false ∷ []))) ≡ arm 5 false ∷ []
unfolding switch_end switch_cases operand settled take_value settle state flush
the_outer_arm_stays = refl

-- ---- names

abbrev after_expression : Parts → State
after_expression p = record (after_values []) { expressions = (p, span_of here) ∷ [] }

abbrev loaded : Parts
loaded = expr 18 [] Nothing (Some 8 ∷ [])

a_literal_takes_no_name : takes_name 0 (after_expression (expr 0 (1 ∷ 42 ∷ []) Nothing [])) ≡ false
a_literal_takes_no_name = refl

a_value_that_is_read_takes_a_name : takes_name 0 (after_expression loaded) ≡ true
a_value_that_is_read_takes_a_name = refl

no_expression_has_two_names : takes_name 0 (record (after_expression loaded) { named = (0, codes "a") ∷ [] }) ≡ false
no_expression_has_two_names = refl

a_copy : expressions_after (copy (value_at 8) 1 node (after_values [])) ≡ expr 28 (0 ∷ 1 ∷ []) Nothing (Some 8 ∷ []) ∷ []
unfolding copy compute
a_copy = refl

-- the type that marks a value stands first among the types
a_marked_value : expressions_after (marked (value_at 8) 3 65 node (after_values [])) ≡ expr 13 [] (TypeOf 0) (Some 8 ∷ []) ∷ []
unfolding marked mark_type types.pointer types.intern composed compute
a_marked_value = refl
