-- The attributes before one thing.
use Rattle.std.specs.Prelude.{ℕ, Bool, false, not, ◌==◌, ◌&&◌, ◌||◌, if◌then◌else◌, List, [], ◌∷◌, Option, Some, None}
use Rattle.yettuvam_wgsl_words.specs.declared.token.Span.{Span}
use Rattle.yettuvam_wgsl_attribute_rules.specs.Refused.{Tested, right, refused, refused_after, ◌>>=◌}
use Rattle.yettuvam_wgsl_attribute_rules.specs.Rules.{belongs, companion_of, excludes, takes}
use Rattle.yettuvam_wgsl_attribute_rules.specs.Words.{is_same}
use Rattle.yettuvam_wgsl_attribute_rules.specs.declared.marks.Mark.{Mark}
use Rattle.yettuvam_wgsl_attribute_rules.specs.declared.refusal.Reason.{Reason}
use Rattle.yettuvam_wgsl_attribute_rules.specs.declared.refusal.Reason.TheVariants as reason
use Rattle.yettuvam_wgsl_attribute_rules.specs.declared.rules.Companion.{Companion}
use Rattle.yettuvam_wgsl_attribute_rules.specs.declared.rules.Companion.TheVariants as companion
use Rattle.yettuvam_wgsl_attribute_rules.specs.declared.rules.Place.{Place}
use Rattle.yettuvam_wgsl_attribute_rules.specs.declared.words.Attribute.{Attribute}
use Rattle.yettuvam_wgsl_attribute_rules.specs.declared.words.Attribute.TheVariants as attribute

-- ---- what stands beside an attribute

-- an attribute is one that another needs beside it
abbrev pub is_companion : Mark → Companion → Bool
is_companion m companion.Location = is_same m.attribute attribute.Location
is_companion m companion.Position = is_same m.attribute attribute.BuiltIn && m.is_position
is_companion m companion.WorkgroupSize = is_same m.attribute attribute.WorkgroupSize
is_companion m companion.Compute = is_same m.attribute attribute.Compute
is_companion m companion.Group = is_same m.attribute attribute.Group
is_companion m companion.Binding = is_same m.attribute attribute.Binding

abbrev pub has_companion : List Mark → Companion → Bool
has_companion [] c = false
has_companion (m ∷ marks) c = is_companion m c || has_companion marks c

-- an attribute that needs another one has it beside it
abbrev pub companion_ruled_by : Option Companion → List Mark → Mark → Tested
companion_ruled_by None marks m = right
companion_ruled_by (Some c) marks m = if has_companion marks c then right else refused (reason.Alone c) m.span

abbrev pub companion_ruled : List Mark → Mark → Tested
companion_ruled marks m = companion_ruled_by (companion_of m.attribute) marks m

-- ---- what attributes stand on

-- one attribute beside others at a place
abbrev pub mark_ruled : Place → (beside : List Mark) → Mark → Tested
mark_ruled place beside m = if belongs m.attribute place then companion_ruled beside m else refused reason.Misplaced m.span

abbrev pub each_ruled : Place → (beside rest : List Mark) → Tested
each_ruled place beside [] = right
each_ruled place beside (m ∷ marks) = mark_ruled place beside m >>= λ _. each_ruled place beside marks

-- all attributes that stand at a place
unfoldable pub ruled : Place → List Mark → Tested
ruled place marks = each_ruled place marks marks

-- ---- an attribute after others

-- the first attribute that can't stand beside another one
abbrev pub rival : List Mark → Attribute → Option Mark
rival [] a = None
rival (m ∷ marks) a = if excludes m.attribute a then Some m else rival marks a

abbrev pub rival_reason : (earlier : Attribute) → Attribute → Reason
rival_reason earlier a = if is_same earlier a then reason.Repeated else reason.Excluded

abbrev pub rival_ruled_by : Option Mark → Mark → Tested
rival_ruled_by None m = right
rival_ruled_by (Some earlier) m = refused_after (rival_reason earlier.attribute m.attribute) m.span earlier.span

-- an attribute can stand beside earlier ones
abbrev pub rival_ruled : List Mark → Mark → Tested
rival_ruled marks m = rival_ruled_by (rival marks m.attribute) m

-- ---- arguments

-- parentheses without arguments: the attribute ends at another place than its name
abbrev pub has_empty_parentheses : Mark → (count : ℕ) → (end : Span) → Bool
has_empty_parentheses m count end = count == 0 && not (end.start == m.span.start)

-- an attribute that ends at a place has the number of arguments that it takes
abbrev pub arguments_ruled : Mark → (count : ℕ) → (end : Span) → Tested
arguments_ruled m count end =
    if not (takes m.attribute count) || has_empty_parentheses m count end then refused reason.Arguments m.span else right
