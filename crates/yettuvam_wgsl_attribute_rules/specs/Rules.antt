-- What WGSL says of each attribute.
use Rattle.std.specs.Prelude.{ℕ, Bool, true, false, not, ◌==◌, ◌&&◌, ◌||◌, nat_le, if◌then◌else◌, Option, Some, None}
use Rattle.yettuvam_wgsl_attribute_rules.specs.Words.{is_same}
use Rattle.yettuvam_wgsl_attribute_rules.specs.declared.rules.Companion.{Companion}
use Rattle.yettuvam_wgsl_attribute_rules.specs.declared.rules.Companion.TheVariants as companion
use Rattle.yettuvam_wgsl_attribute_rules.specs.declared.rules.Place.{Place}
use Rattle.yettuvam_wgsl_attribute_rules.specs.declared.rules.Place.TheVariants as place
use Rattle.yettuvam_wgsl_attribute_rules.specs.declared.words.Attribute.{Attribute}
use Rattle.yettuvam_wgsl_attribute_rules.specs.declared.words.Attribute.TheVariants as attribute

-- ---- where attributes may stand

-- how a value enters or leaves a shader
abbrev pub is_of_value : Attribute → Bool
is_of_value attribute.Location = true
is_of_value attribute.BuiltIn = true
is_of_value attribute.Interpolate = true
is_of_value attribute.Invariant = true
is_of_value _ = false

-- what members alone have
abbrev pub is_of_member : Attribute → Bool
is_of_member attribute.Align = true
is_of_member attribute.Size = true
is_of_member attribute.BlendSrc = true
is_of_member _ = false

-- the parts of a binding
abbrev pub is_of_variable : Attribute → Bool
is_of_variable attribute.Group = true
is_of_variable attribute.Binding = true
is_of_variable _ = false

-- the stages of entry points
abbrev pub is_stage : Attribute → Bool
is_stage attribute.Compute = true
is_stage attribute.Fragment = true
is_stage attribute.Vertex = true
is_stage _ = false

-- what else functions have
abbrev pub is_of_function : Attribute → Bool
is_of_function attribute.WorkgroupSize = true
is_of_function attribute.MustUse = true
is_of_function attribute.Diagnostic = true
is_of_function _ = false

-- an attribute may stand at a place; `@const` is for the functions of WGSL itself
abbrev pub belongs : Attribute → Place → Bool
belongs a place.Member = is_of_value a || is_of_member a
belongs a place.Value = is_of_value a
belongs a place.Variable = is_of_variable a
belongs a place.Override = is_same a attribute.Id
belongs a place.Function = is_stage a || is_of_function a
belongs a place.Compound = is_same a attribute.Diagnostic
belongs a place.Other = false

-- ---- arguments

-- an attribute may have a number of arguments
abbrev pub takes : Attribute → (count : ℕ) → Bool
takes attribute.Compute count = count == 0
takes attribute.Fragment count = count == 0
takes attribute.Vertex count = count == 0
takes attribute.Const count = count == 0
takes attribute.Invariant count = count == 0
takes attribute.MustUse count = count == 0
takes attribute.Diagnostic count = count == 2
takes attribute.Interpolate count = count == 1 || count == 2
takes attribute.WorkgroupSize count = nat_le 1 count && nat_le count 3
takes _ count = count == 1

-- ---- what may stand beside another one

-- where a value of a shader comes from or goes to
abbrev pub is_way : Attribute → Bool
is_way attribute.Location = true
is_way attribute.BuiltIn = true
is_way _ = false

-- an attribute may stand twice on one thing
abbrev pub may_repeat : Attribute → Bool
may_repeat a = is_same a attribute.Diagnostic

-- two attributes can't stand on one thing: the same one twice, two stages, a location and a built-in value
abbrev pub excludes : Attribute → Attribute → Bool
excludes a b = if is_same a b then not (may_repeat a) else (is_stage a && is_stage b || is_way a && is_way b)

-- what an attribute needs beside it
abbrev pub companion_of : Attribute → Option Companion
companion_of attribute.Interpolate = Some companion.Location
companion_of attribute.BlendSrc = Some companion.Location
companion_of attribute.Invariant = Some companion.Position
companion_of attribute.Compute = Some companion.WorkgroupSize
companion_of attribute.WorkgroupSize = Some companion.Compute
companion_of attribute.Binding = Some companion.Group
companion_of attribute.Group = Some companion.Binding
companion_of _ = None
