-- Attributes over the values that are their arguments.
use Rattle.std.specs.Prelude.{ℕ, false, ◌==◌, ◌||◌, nat_le, nat_lt, if◌then◌else◌, List, length, slice_get, Option, Some, None, Ok, Err}
use Rattle.yettuvam_wgsl_arguments.specs.Arguments.{Made, ◌>=>◌, made, natural}
use Rattle.yettuvam_wgsl_attributes.specs.Attributes as attributes
use Rattle.yettuvam_wgsl_attributes.specs.Words.{attribute_of}
use Rattle.yettuvam_wgsl_attributes.specs.declared.attributes.Attributes.{Attributes}
use Rattle.yettuvam_wgsl_attributes.specs.declared.attributes.Dimension.{Dimension}
use Rattle.yettuvam_wgsl_attributes.specs.declared.attributes.Dimension.TheVariants.{Missing, Known, Computed}
use Rattle.yettuvam_wgsl_attributes.specs.declared.words.Attribute.{Attribute}
use Rattle.yettuvam_wgsl_attributes.specs.declared.words.Attribute.TheVariants as attribute
use Rattle.yettuvam_wgsl_machine.specs.Machine.{Node}
use Rattle.yettuvam_wgsl_names.specs.Codes.{code_of}
use Rattle.yettuvam_wgsl_names.specs.Context.{built_in_value_rows, interpolation_type_rows, sampling_rows}
use Rattle.yettuvam_wgsl_predeclared.specs.Words.{word_of}
use Rattle.yettuvam_wgsl_scope.specs.Items.{Name}
use Rattle.yettuvam_wgsl_scope.specs.Refused.{Outcome, ◌>>=◌, done, fault}
use Rattle.yettuvam_wgsl_scope.specs.declared.refusal.Reason.TheVariants as reason
use Rattle.yettuvam_wgsl_shape.specs.Numbers.{value_of}
use Rattle.yettuvam_wgsl_shape.specs.declared.number.Number.{Number}
use Rattle.yettuvam_wgsl_type_words.specs.Templates.{opened, last_call, without_call}
use Rattle.yettuvam_wgsl_values.specs.Body.{State, Done, settle, arguments}
use Rattle.yettuvam_wgsl_values.specs.Value.{Value, What, Word, handle_of}

abbrev pub present : Option Value → Node → Made Value
present (Some v) node = Ok v
present None node = Err (fault reason.Arguments node.span)

-- the argument at a place
unfoldable pub at : List Value → ℕ → Node → Made Value
at args place node = present (slice_get args place) node

abbrev pub fitting_if : Option ℕ → Node → Made ℕ
fitting_if (Some number) node = Ok number
fitting_if None node = Err (fault reason.NoNumber node.span)

-- a number of 32 bits
unfoldable pub fitting : Number → Node → Made ℕ
fitting number node = fitting_if (natural (value_of number)) node

unfoldable pub known : Option Number → Node → Made ℕ
known (Some number) node = fitting number node
known None node = Err (fault reason.NoConstant node.span)

-- the number of the first argument
unfoldable pub number_at : List Value → Node → Made ℕ
number_at args node = at args 0 node >=> (λ v. known v.number node)

abbrev pub word_in : What → Node → Made Name
word_in (Word name) node = Ok name
word_in _ node = Err (fault reason.Attribute node.span)

unfoldable pub word_at : List Value → ℕ → Node → Made Name
word_at args place node = at args place node >=> (λ v. word_in v.what node)

abbrev pub coded : Option ℕ → Name → Made ℕ
coded (Some code) name = Ok code
coded None name = Err (fault reason.UnknownName name.span)

unfoldable pub built_in_at : List Value → Node → Made ℕ
built_in_at args node = word_at args 0 node >=> (λ name. coded (code_of built_in_value_rows (word_of name.text)) name)

unfoldable pub interpolation_at : List Value → Node → Made ℕ
interpolation_at args node = word_at args 0 node >=> (λ name. coded (code_of interpolation_type_rows (word_of name.text)) name)

unfoldable pub sampling_in : List Value → Node → Made ℕ
sampling_in args node = word_at args 1 node >=> (λ name. coded (code_of sampling_rows (word_of name.text)) name)

-- the code of the second argument, 0 if it is left out
unfoldable pub sampling_at : List Value → Node → Made ℕ
sampling_at args node = if nat_le (length args) 1 then Ok 0 else sampling_in args node

unfoldable pub with_interpolation : Attributes → List Value → Node → Made Attributes
with_interpolation old args node = interpolation_at args node >=> (λ kind. sampling_at args node
    >=> (λ sampled. Ok (attributes.with_bits (attributes.interpolation_bits kind sampled) old)))

abbrev pub that_fits : Option Attributes → Node → Made Attributes
that_fits (Some found) node = Ok found
that_fits None node = Err (fault reason.NoNumber node.span)

unfoldable pub with_number : Attribute → Attributes → List Value → Node → Made Attributes
with_number attribute old args node = number_at args node >=> (λ number. that_fits (attributes.with_number attribute number old) node)

unfoldable pub with_built_in : Attributes → List Value → Node → Made Attributes
with_built_in old args node = built_in_at args node >=> (λ code. Ok (attributes.with_bits (attributes.built_in_bits code) old))

-- ---- sizes of workgroups, of which a pipeline may compute some

unfoldable pub known_size : Number → Node → Made Dimension
known_size number node = fitting number node >=> (λ size. Ok (Known size))

unfoldable pub computed_size : Value → Node → State → Outcome State Dimension
computed_size v node s = settle v node s >>= (λ w t. Ok (Computed (handle_of w), t))

abbrev pub size_by : Option Number → Value → Node → State → Outcome State Dimension
size_by (Some number) v node s = made (known_size number node) s
size_by None v node s = computed_size v node s

-- the size of a number that is known, or the expression of another one
unfoldable pub size_of : Value → Node → State → Outcome State Dimension
size_of v node s = size_by v.number v node s

abbrev pub size_if : Option Value → Node → State → Outcome State Dimension
size_if (Some v) node s = size_of v node s
size_if None node s = Ok (Missing, s)

unfoldable pub size_in : List Value → ℕ → Node → State → Outcome State Dimension
size_in args place node s = size_if (slice_get args place) node s

unfoldable pub sizes_in : Attributes → List Value → Node → State → Outcome State Attributes
sizes_in old args node s = size_in args 0 node s >>= (λ x t. size_in args 1 node t >>= (λ y u. size_in args 2 node u
    >>= (λ z w. Ok (attributes.with_sizes x y z old, w))))

unfoldable pub with_workgroup_size : Attributes → List Value → Node → State → Outcome State Attributes
with_workgroup_size old args node s = if length args == 0 || nat_lt 3 (length args) then Err (fault reason.Arguments node.span) else sizes_in old args node s

-- ---- attributes

-- the attributes before a declaration with one more
unfoldable pub with_attribute : Attribute → Attributes → List Value → Node → State → Outcome State Attributes
with_attribute attribute.Ignored old args node s = Ok (old, s)
with_attribute (attribute.Stage stage) old args node s = Ok (attributes.with_stage stage old, s)
with_attribute attribute.Invariant old args node s = Ok (attributes.with_bits attributes.invariant_bits old, s)
with_attribute attribute.BuiltIn old args node s = made (with_built_in old args node) s
with_attribute attribute.Interpolate old args node s = made (with_interpolation old args node) s
with_attribute attribute.WorkgroupSize old args node s = with_workgroup_size old args node s
with_attribute attribute old args node s = made (with_number attribute old args node) s

-- an attribute begins: its arguments are the values from here
unfoldable pub attribute_start : State → Done
attribute_start s = done (opened false s)

-- the arguments of an attribute, which are taken
unfoldable pub attribute_arguments : State → Outcome State (List Value)
attribute_arguments s = arguments (last_call s.calls).count (without_call s)

abbrev pub named_attribute : Option Attribute → Name → Attributes → List Value → Node → State → Outcome State Attributes
named_attribute (Some attribute) name old args node s = with_attribute attribute old args node s
named_attribute None name old args node s = Err (fault reason.Attribute name.span)

-- an attribute ends
unfoldable pub attribute_end : Name → Attributes → Node → State → Outcome State Attributes
attribute_end name old node s = attribute_arguments s >>= (λ args. named_attribute (attribute_of (word_of name.text)) name old args node)
