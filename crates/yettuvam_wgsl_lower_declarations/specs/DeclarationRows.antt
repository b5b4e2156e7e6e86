-- Worked rows: names that are copies and names that aren't, pointers, and variables with and without values.
use Rattle.std.specs.Prelude.{◌≡◌, ℕ, List, [], ◌∷◌, map, pos, Some, None, Ok, Err, refl}
use Rattle.naga_oil_ir.specs.Body.{Tokens}
use Rattle.naga_oil_ir.specs.Kinds.{emit_head}
use Rattle.naga_oil_ir.specs.ModuleValue.{LocalValue}
use Rattle.naga_oil_ir.specs.Parts.{Parts, expr}
use Rattle.naga_oil_ir.specs.declared.parts.Named.TheVariants.{Nothing, TypeOf, LocalAt}
use Rattle.naga_oil_ir.specs.declared.tokens.Token.TheVariants as token
use Rattle.yettuvam_wgsl_words.specs.declared.token.Span.{Span}
use Rattle.yettuvam_wgsl_machine.specs.Machine.{Node}
use Rattle.yettuvam_wgsl_machine.specs.declared.symbol.Form.TheVariants as form
use Rattle.yettuvam_wgsl_scope.specs.Refused.{Outcome, fault}
use Rattle.yettuvam_wgsl_scope.specs.declared.refusal.Reason.TheVariants as reason
use Rattle.yettuvam_wgsl_shape.specs.declared.number.Number.TheVariants.{Signed}
use Rattle.yettuvam_wgsl_types.specs.Types as types
use Rattle.yettuvam_wgsl_types.specs.declared.shape.Shape.TheVariants as shape
use Rattle.yettuvam_wgsl_values.specs.Body.{State, begin, enter, span_of, number_value, take_value, settle, settled, put_for, put, flush, state, compute, name_expression, declared_name, know}
use Rattle.yettuvam_wgsl_values.specs.Value.{Value, Pointer, Plain, Literal, TypeAt, NoSpace, Absent, shaped, bare}
use Rattle.yettuvam_wgsl_values.specs.declared.value.Meaning.{Meaning}
use Rattle.yettuvam_wgsl_values.specs.declared.value.Meaning.TheVariants as means
use Rattle.yettuvam_wgsl_lower_statements.specs.Naming.{copy, mark_type, composed, marked, named}
use Rattle.yettuvam_wgsl_type_words.specs.Types.{type_of}
use Rattle.yettuvam_wgsl_lower_declarations.specs.Declarations.{optional_type, declared_type, let_copied, let_untyped, let_typed, name_place, let_pointer, let_copy, let_value, let_, const_untyped, local_const, variable_type, zero_value, no_value, first_value, local, store_first, stored_local, local_var}

abbrev here : Span
here = record { start = 3; end = 4 }

abbrev node : Node
node = record { form = form.Name; span = here; text = [] }

abbrev loaded : Parts
loaded = expr 18 [] Nothing (Some 8 ∷ [])

-- in a function of which one expression and some values are read; the expression isn't emitted yet
abbrev after_values : List Value → State
after_values vs = record (enter (begin [])) { expressions = (loaded, span_of here) ∷ []; values = vs }

abbrev expressions_after : {A : Type 0} → Outcome State A → List Parts
expressions_after (Ok p) = map (λ e. e.0) p.1.expressions
expressions_after (Err e) = []

abbrev known_after : {A : Type 0} → Outcome State A → List Meaning
known_after (Ok p) = p.1.known
known_after (Err e) = []

abbrev named_after : {A : Type 0} → Outcome State A → List ℕ
named_after (Ok p) = map (λ e. e.0) p.1.named
named_after (Err e) = []

abbrev locals_after : {A : Type 0} → Outcome State A → List LocalValue
locals_after (Ok p) = map (λ l. l.0) p.1.locals
locals_after (Err e) = []

abbrev body_after : {A : Type 0} → Outcome State A → Tokens
body_after (Ok p) = p.1.body
body_after (Err e) = []

abbrev read : Value
read = bare (Plain 0)

abbrev seven : Value
seven = number_value (Literal 2 7) shape.Plain (Some (Signed (pos 7)))

abbrev untyped : Value → State
untyped v = after_values (bare Absent ∷ v ∷ [])

-- ---- let

-- let a = b, where b is a variable: the name is that of what is read
a_let_names_what_is_read : named_after (let_ node (untyped read)) ≡ 0 ∷ []
unfolding let_ settled take_value settle declared_type optional_type let_value let_copy let_untyped named name_expression flush know
a_let_names_what_is_read = refl

and_it_is_emitted_there : body_after (let_ node (untyped read)) ≡ token.At (span_of here) ∷ token.Head emit_head ∷ token.Emitted (0, 1) ∷ []
unfolding let_ settled take_value settle declared_type optional_type let_value let_copy let_untyped named name_expression flush know
and_it_is_emitted_there = refl

-- let a = 7i: a literal takes no name, so the name is that of a copy
a_let_of_a_literal_is_a_copy : expressions_after (let_ node (untyped seven)) ≡ loaded ∷ expr 0 (2 ∷ 7 ∷ []) Nothing [] ∷ expr 28 (0 ∷ 1 ∷ []) Nothing (Some 1 ∷ []) ∷ []
unfolding let_ settled take_value settle put_for put flush compute declared_type optional_type let_value let_copy let_untyped let_copied copy named name_expression know
a_let_of_a_literal_is_a_copy = refl

-- the value of a let is no constant
a_let_has_no_number : known_after (let_ node (untyped seven)) ≡ means.Value 2 shape.Plain None ∷ []
unfolding let_ settled take_value settle put_for put flush compute declared_type optional_type let_value let_copy let_untyped let_copied copy named name_expression know
a_let_has_no_number = refl

-- let a: T = b
a_typed_let_is_marked : expressions_after (let_ node (after_values (bare (TypeAt 5) ∷ read ∷ []))) ≡ loaded ∷ expr 13 [] (TypeOf 0) (Some 0 ∷ []) ∷ []
unfolding let_ settled take_value settle declared_type optional_type type_of let_value let_copy let_typed marked mark_type types.pointer types.intern composed compute named name_expression flush know
a_typed_let_is_marked = refl

-- let a = &b
a_pointer_is_no_copy : known_after (let_ node (untyped (shaped (Pointer 0) shape.Plain))) ≡ means.Pointer 0 shape.Plain ∷ []
unfolding let_ settled take_value settle declared_type optional_type let_value let_pointer name_place name_expression flush know
a_pointer_is_no_copy = refl

-- ---- const

-- const a = 7i
a_const_has_its_number : known_after (local_const node (untyped seven)) ≡ means.Value 2 shape.Plain (Some (Signed (pos 7))) ∷ []
unfolding local_const settled take_value settle put_for put flush compute declared_type optional_type const_untyped copy named name_expression know
a_const_has_its_number = refl

-- ---- var

abbrev variable : Value → Value → State
variable ty v = after_values (bare NoSpace ∷ ty ∷ v ∷ [])

abbrev the_local : LocalValue
the_local = record { name = Some (declared_name (begin [])); ty = 0; init = None }

-- var a = b: its type isn't said, and its first value is stored
a_variable : locals_after (local_var node (variable (bare Absent) read)) ≡ the_local ∷ []
unfolding local_var take_value declared_type optional_type first_value settle variable_type types.type_of types.plain types.intern stored_local local store_first put flush compute state know
a_variable = refl

its_first_value_is_stored : body_after (local_var node (variable (bare Absent) read))
    ≡ token.At (span_of here) ∷ token.Head emit_head ∷ token.Emitted (0, 1) ∷ token.At (span_of here) ∷ token.Head 11 ∷ token.Use 1 ∷ token.Use 0 ∷ []
unfolding local_var take_value declared_type optional_type first_value settle variable_type types.type_of types.plain types.intern stored_local local store_first put flush compute state know
its_first_value_is_stored = refl

-- var a: T
a_variable_without_a_value_is_zero : expressions_after (local_var node (variable (bare (TypeAt 0)) (bare Absent))) ≡ loaded ∷ expr 1 [] (TypeOf 0) [] ∷ expr 5 [] (LocalAt 0) [] ∷ []
unfolding local_var take_value declared_type optional_type type_of first_value no_value zero_value variable_type stored_local local store_first put flush compute state know
a_variable_without_a_value_is_zero = refl

a_variable_has_a_type_or_a_value : local_var node (variable (bare Absent) (bare Absent)) ≡ Err (fault reason.NoType here)
unfolding local_var take_value declared_type optional_type first_value no_value
a_variable_has_a_type_or_a_value = refl
