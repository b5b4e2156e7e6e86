-- Attributes, worked by hand from what WGSL says.
use Rattle.std.specs.Prelude.{◌≡◌, refl, ℕ, ◌+◌, true, false, [], ◌∷◌, ◌++◌, List, Some, None, codes}
use Rattle.yettuvam_wgsl_machine.specs.Machine.{Node}
use Rattle.yettuvam_wgsl_machine.specs.declared.symbol.Form.{Form}
use Rattle.yettuvam_wgsl_machine.specs.declared.symbol.Form.TheVariants as form
use Rattle.yettuvam_wgsl_words.specs.Class.{Text}
use Rattle.yettuvam_wgsl_words.specs.declared.token.Span.{Span}
use Rattle.yettuvam_wgsl_attribute_rules.specs.Fault.{attribute_fault}
use Rattle.yettuvam_wgsl_attribute_rules.specs.Marks.{ruled}
use Rattle.yettuvam_wgsl_attribute_rules.specs.Refused.{right, refused, refused_after}
use Rattle.yettuvam_wgsl_attribute_rules.specs.Rules.{belongs, excludes, takes}
use Rattle.yettuvam_wgsl_attribute_rules.specs.Testing.{attributes_ruled, run, step, begin, attribute, directive, place, function, no_result}
use Rattle.yettuvam_wgsl_attribute_rules.specs.Words.{attribute_of}
use Rattle.yettuvam_wgsl_attribute_rules.specs.declared.refusal.Reason.TheVariants as reason
use Rattle.yettuvam_wgsl_attribute_rules.specs.declared.rules.Companion.TheVariants as companion
use Rattle.yettuvam_wgsl_attribute_rules.specs.declared.rules.Place.TheVariants as at
use Rattle.yettuvam_wgsl_attribute_rules.specs.declared.words.Attribute.TheVariants as attribute_is

-- ---- single attributes

name_row : attribute_of (codes "workgroup_size") ≡ Some attribute_is.WorkgroupSize
name_row = refl

no_name_row : attribute_of (codes "local") ≡ None
no_name_row = refl

-- `@size` belongs to members, not to parameters and results
size_of_a_member : belongs attribute_is.Size at.Member ≡ true
size_of_a_member = refl

size_of_a_value : belongs attribute_is.Size at.Value ≡ false
size_of_a_value = refl

-- `@diagnostic` belongs to `if`, and not to `let`
diagnostic_of_an_if : belongs attribute_is.Diagnostic at.Compound ≡ true
diagnostic_of_an_if = refl

diagnostic_of_a_let : belongs attribute_is.Diagnostic at.Other ≡ false
diagnostic_of_a_let = refl

-- `@workgroup_size` has up to three arguments
three_sizes : takes attribute_is.WorkgroupSize 3 ≡ true
three_sizes = refl

four_sizes : takes attribute_is.WorkgroupSize 4 ≡ false
four_sizes = refl

diagnostics_repeat : excludes attribute_is.Diagnostic attribute_is.Diagnostic ≡ false
diagnostics_repeat = refl

-- ---- the nodes of a text: in these rows a node of the form F from a place has the text T

abbrev span : (start end : ℕ) → Span
span start end = record { start = start; end = end }

abbrev node : Form → (start : ℕ) → (end : ℕ) → Text → Node
node f start end text = record { form = f; span = span start end; text = text }

-- an attribute without arguments at a place
abbrev bare : (start end : ℕ) → Text → List Node
bare start end name = node form.AttributeName start end name ∷ node form.Attribute start end name ∷ []

-- an attribute with one argument of one character
abbrev with_number : (start end : ℕ) → Text → List Node
with_number start end name =
    node form.AttributeName start end name ∷ node form.Number (end + 1) (end + 2) (codes "1")
    ∷ node form.AttributeArgument (end + 1) (end + 2) (codes "1") ∷ node form.Attribute (end + 2) (end + 3) (codes ")") ∷ []

-- the end of something
abbrev ends : Form → List Node
ends f = node f 99 100 (codes ";") ∷ []

-- @group(1) @binding(1) var ..;
a_binding : attributes_ruled (with_number 1 6 (codes "group") ++ with_number 11 18 (codes "binding") ++ ends form.Var) ≡ right
unfolding attributes_ruled run step begin attribute place ruled
a_binding = refl

-- @group(1) var ..;
half_a_binding : attributes_ruled (with_number 1 6 (codes "group") ++ ends form.Var) ≡ refused (reason.Alone companion.Binding) (span 1 6)
unfolding attributes_ruled run step begin attribute place ruled
half_a_binding = refl

-- @group(1) @group(1) ..
two_groups : attributes_ruled (with_number 1 6 (codes "group") ++ with_number 11 16 (codes "group") ++ ends form.Var)
    ≡ refused_after reason.Repeated (span 11 16) (span 1 6)
unfolding attributes_ruled run step begin attribute place ruled
two_groups = refl

-- @fragment @vertex ..
two_stages : attributes_ruled (bare 1 9 (codes "fragment") ++ bare 11 17 (codes "vertex") ++ ends form.FunctionName)
    ≡ refused_after reason.Excluded (span 11 17) (span 1 9)
unfolding attributes_ruled run step begin attribute place function ruled
two_stages = refl

-- @size(1) let ..;
size_of_a_let : attributes_ruled (with_number 1 5 (codes "size") ++ ends form.Let) ≡ refused reason.Misplaced (span 1 5)
unfolding attributes_ruled run step begin attribute place ruled
size_of_a_let = refl

-- @size ..
no_size : attributes_ruled (bare 1 5 (codes "size")) ≡ refused reason.Arguments (span 1 5)
unfolding attributes_ruled run step begin attribute
no_size = refl

-- @compute() ..
empty_parentheses : attributes_ruled (node form.AttributeName 1 8 (codes "compute") ∷ node form.Attribute 9 10 (codes ")") ∷ [])
    ≡ refused reason.Arguments (span 1 8)
unfolding attributes_ruled run step begin attribute
empty_parentheses = refl

-- @foo ..
unknown_row : attributes_ruled (bare 1 4 (codes "foo")) ≡ refused reason.Unknown (span 1 4)
unfolding attributes_ruled run step begin
unknown_row = refl

-- @must_use fn f() {..}
unused_nothing : attributes_ruled (bare 1 9 (codes "must_use") ++ ends form.FunctionName ++ ends form.NoResult) ≡ refused reason.NoResult (span 1 9)
unfolding attributes_ruled run step begin attribute place function no_result ruled
unused_nothing = refl

-- @builtin(position)
abbrev built_in : Text → List Node
built_in value =
    node form.AttributeName 21 28 (codes "builtin") ∷ node form.Name 29 37 value
    ∷ node form.AttributeArgument 29 37 value ∷ node form.Attribute 37 38 (codes ")") ∷ []

-- @invariant @builtin(position) a: vec4f
invariant_position : attributes_ruled (bare 1 10 (codes "invariant") ++ built_in (codes "position") ++ ends form.StructMember) ≡ right
unfolding attributes_ruled run step begin attribute place ruled
invariant_position = refl

-- @invariant @builtin(frag_depth) a: f32
invariant_depth : attributes_ruled (bare 1 10 (codes "invariant") ++ built_in (codes "frag_depth") ++ ends form.StructMember)
    ≡ refused (reason.Alone companion.Position) (span 1 10)
unfolding attributes_ruled run step begin attribute place ruled
invariant_depth = refl

-- diagnostic(1);
half_a_directive : attributes_ruled (node form.DiagnosticStart 0 10 (codes "diagnostic") ∷ node form.Number 11 12 (codes "1")
    ∷ node form.AttributeArgument 11 12 (codes "1") ∷ node form.Diagnostic 13 14 (codes ";") ∷ []) ≡ refused reason.Arguments (span 0 10)
unfolding attributes_ruled run step begin directive
half_a_directive = refl

-- ---- reports

repeated_row : attribute_fault (record { reason = reason.Repeated; span = span 5 7; first = Some (span 1 3) })
    ≡ record {
      message = codes "repeated attribute";
      spans = (record { start = 5; end = 7 }, codes "stands here again") ∷ (record { start = 1; end = 3 }, codes "stands here first") ∷ [];
      notes = [];
    }
unfolding attribute_fault
repeated_row = refl

lonely_row : attribute_fault (record { reason = reason.Alone companion.WorkgroupSize; span = span 1 8; first = None })
    ≡ record {
      message = codes "incomplete attributes";
      spans = (record { start = 1; end = 8 }, codes "needs `@workgroup_size` beside it") ∷ [];
      notes = [];
    }
unfolding attribute_fault
lonely_row = refl
