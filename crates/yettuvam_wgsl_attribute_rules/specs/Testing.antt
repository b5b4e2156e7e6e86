-- The attributes in the nodes of a text.
use Rattle.std.specs.Prelude.{ℕ, ◌+◌, false, min, nat_eq, List, [], ◌∷◌, ◌++◌, Option, Some, None, Result, Ok, Err, codes}
use Rattle.std.specs.Cmp.Lexicographic.{pointwise}
use Rattle.yettuvam_wgsl_machine.specs.Machine.{Node}
use Rattle.yettuvam_wgsl_machine.specs.declared.symbol.Form.{Form}
use Rattle.yettuvam_wgsl_machine.specs.declared.symbol.Form.TheVariants as form
use Rattle.yettuvam_wgsl_attribute_rules.specs.Marks.{arguments_ruled, rival, rival_ruled, ruled}
use Rattle.yettuvam_wgsl_attribute_rules.specs.Refused.{Tested, right, refused, ◌>>=◌}
use Rattle.yettuvam_wgsl_attribute_rules.specs.Words.{attribute_of}
use Rattle.yettuvam_wgsl_attribute_rules.specs.declared.marks.Mark.{Mark}
use Rattle.yettuvam_wgsl_attribute_rules.specs.declared.refusal.Fault.{Fault}
use Rattle.yettuvam_wgsl_attribute_rules.specs.declared.refusal.Reason.TheVariants as reason
use Rattle.yettuvam_wgsl_attribute_rules.specs.declared.rules.Place.{Place}
use Rattle.yettuvam_wgsl_attribute_rules.specs.declared.rules.Place.TheVariants as at
use Rattle.yettuvam_wgsl_attribute_rules.specs.declared.testing.Act.{Act}
use Rattle.yettuvam_wgsl_attribute_rules.specs.declared.testing.Act.TheVariants as does
use Rattle.yettuvam_wgsl_attribute_rules.specs.declared.testing.Tester.{Tester}
use Rattle.yettuvam_wgsl_attribute_rules.specs.declared.words.Attribute.{Attribute}
use Rattle.yettuvam_wgsl_attribute_rules.specs.declared.words.Attribute.TheVariants as attribute_is

-- ---- what nodes are for attributes

-- the place of the attributes before a node, other than a function's
abbrev pub place_of : Form → Option Place
place_of form.StructMember = Some at.Member
place_of form.Parameter = Some at.Value
place_of form.Result = Some at.Value
place_of form.Var = Some at.Variable
place_of form.Override = Some at.Override
place_of form.Block = Some at.Compound
place_of form.If = Some at.Compound
place_of form.Loop = Some at.Compound
place_of form.Switch = Some at.Compound
place_of form.Selector = Some at.Compound
place_of form.DefaultSelector = Some at.Compound
place_of form.SwitchEnd = Some at.Compound
place_of form.Let = Some at.Other
place_of form.LocalConst = Some at.Other
place_of form.LocalVar = Some at.Other
place_of form.Phony = Some at.Other
place_of form.Assign = Some at.Other
place_of form.StatementCall = Some at.Other
place_of form.ConstAssert = Some at.Other
place_of form.Break = Some at.Other
place_of form.BreakIf = Some at.Other
place_of form.Continue = Some at.Other
place_of form.Discard = Some at.Other
place_of form.Return = Some at.Other
place_of form.ReturnValue = Some at.Other
place_of form.BlockEnd = Some at.Other
place_of _ = None

abbrev pub placed : Option Place → Act
placed (Some p) = does.Place p
placed None = does.Nothing

abbrev pub act_of : Form → Act
act_of form.Name = does.Word
act_of form.AttributeName = does.Begin
act_of form.DiagnosticStart = does.Begin
act_of form.AttributeArgument = does.Argument
act_of form.Attribute = does.Attribute
act_of form.Diagnostic = does.Directive
act_of form.FunctionName = does.Function
act_of form.NoResult = does.NoResult
act_of other = placed (place_of other)

-- ---- the state

pub record State : Type 0 where
  -- the attributes before what they stand on
  pub marks : List Mark
  -- the attribute that was begun last, and the number of its arguments so far
  pub begun : Mark
  pub count : ℕ
  -- `@must_use` of the function that was begun last
  pub must_use : Option Mark

abbrev pub state_of : Tester → State
state_of t = record { marks = t.marks.items; begun = t.begun; count = t.count; must_use = t.must_use }

abbrev pub Step : Type 0
Step = Result State Fault

-- the greatest number of arguments that is counted
abbrev pub greatest : ℕ
greatest = 18446744073709551615

-- ---- steps

-- a word, which may be `position`
abbrev pub word : Node → State → State
word node s = record s { begun = record s.begun { is_position = pointwise nat_eq node.text (codes "position") } }

abbrev pub named_by : Option Attribute → Node → Result Mark Fault
named_by (Some a) node = Ok (record { attribute = a; span = node.span; is_position = false })
named_by None node = Err (record { reason = reason.Unknown; span = node.span; first = None })

-- the attribute that a node names
abbrev pub named : Node → Result Mark Fault
named node = named_by (attribute_of node.text) node

-- an attribute begins, without arguments so far
unfoldable pub begin : Node → State → Step
begin node s = named node >>= λ m. Ok (record s { begun = m; count = 0 })

abbrev pub argument : State → State
argument s = record s { count = min (s.count + 1) greatest }

-- a directive ends
unfoldable pub directive : Node → State → Step
directive node s = arguments_ruled s.begun s.count node.span >>= λ _. Ok s

-- an attribute ends, and is one of those before what they stand on
unfoldable pub attribute : Node → State → Step
attribute node s = do
  _ ← arguments_ruled s.begun s.count node.span
  _ ← rival_ruled s.marks s.begun
  Ok (record s { marks = s.marks ++ s.begun ∷ [] })

-- the attributes before stand at a place
unfoldable pub place : Place → State → Step
place p s = ruled p s.marks >>= λ _. Ok (record s { marks = [] })

-- the attributes before stand on a function
unfoldable pub function : State → Step
function s = place at.Function (record s { must_use = rival s.marks attribute_is.MustUse })

abbrev pub no_result_ruled : Option Mark → Tested
no_result_ruled None = right
no_result_ruled (Some m) = refused reason.NoResult m.span

-- a function without a result has no `@must_use`
unfoldable pub no_result : State → Step
no_result s = no_result_ruled s.must_use >>= λ _. Ok s

abbrev pub step_by : Act → Node → State → Step
step_by does.Nothing node s = Ok s
step_by does.Word node s = Ok (word node s)
step_by does.Begin node s = begin node s
step_by does.Argument node s = Ok (argument s)
step_by does.Attribute node s = attribute node s
step_by does.Directive node s = directive node s
step_by (does.Place p) node s = place p s
step_by does.Function node s = function s
step_by does.NoResult node s = no_result s

unfoldable pub step : Node → State → Step
step node s = step_by (act_of node.form) node s

unfoldable pub run : List Node → State → Step
run [] s = Ok s
run (node ∷ nodes) s = step node s >>= run nodes

-- ---- a whole text

-- the attribute of what has none
abbrev pub no_mark : Mark
no_mark = record { attribute = attribute_is.Const; span = record { start = 0; end = 0 }; is_position = false }

abbrev pub start : State
start = record { marks = []; begun = no_mark; count = 0; must_use = None }

-- the attributes of a text, and the arguments of its directives: the first fault
unfoldable pub attributes_ruled : List Node → Tested
attributes_ruled nodes = run nodes start >>= λ _. right
