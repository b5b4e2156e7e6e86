-- What is wrong with an attribute, as a front end reports it.
use Rattle.std.specs.Prelude.{List, [], ◌∷◌, ◌++◌, Option, Some, None, codes}
use Rattle.naga_oil_ir.specs.Backend.{FaultValue}
use Rattle.naga_oil_ir.specs.declared.span.Span.{Span as Place}
use Rattle.yettuvam_wgsl_words.specs.Class.{Text}
use Rattle.yettuvam_wgsl_words.specs.declared.token.Span.{Span}
use Rattle.yettuvam_wgsl_attribute_rules.specs.declared.refusal.Fault.{Fault}
use Rattle.yettuvam_wgsl_attribute_rules.specs.declared.refusal.Reason.{Reason}
use Rattle.yettuvam_wgsl_attribute_rules.specs.declared.refusal.Reason.TheVariants as reason
use Rattle.yettuvam_wgsl_attribute_rules.specs.declared.rules.Companion.{Companion}
use Rattle.yettuvam_wgsl_attribute_rules.specs.declared.rules.Companion.TheVariants as companion

-- the message of a fault
abbrev pub message : Reason → Text
message reason.Unknown = codes "unknown attribute"
message reason.Misplaced = codes "misplaced attribute"
message reason.Repeated = codes "repeated attribute"
message reason.Excluded = codes "attributes that exclude each other"
message reason.Arguments = codes "wrong number of arguments"
message (reason.Alone c) = codes "incomplete attributes"
message reason.NoResult = codes "attribute without effect"

abbrev pub companion_label : Companion → Text
companion_label companion.Location = codes "needs `@location` beside it"
companion_label companion.Position = codes "needs `@builtin(position)` beside it"
companion_label companion.WorkgroupSize = codes "needs `@workgroup_size` beside it"
companion_label companion.Compute = codes "needs `@compute` beside it"
companion_label companion.Group = codes "needs `@group` beside it"
companion_label companion.Binding = codes "needs `@binding` beside it"

-- the message at the place of a fault
abbrev pub label : Reason → Text
label reason.Unknown = codes "WGSL has no attribute with this name"
label reason.Misplaced = codes "does not belong here"
label reason.Repeated = codes "stands here again"
label reason.Excluded = codes "can't stand beside the first one"
label reason.Arguments = codes "this attribute has another number of arguments"
label (reason.Alone c) = companion_label c
label reason.NoResult = codes "the function has no result"

abbrev pub span_of : Span → Place
span_of s = record { start = s.start; end = s.end }

abbrev pub with_place : Span → (label : Text) → List (Place × Text) → List (Place × Text)
with_place at label places = places ++ (span_of at, label) ∷ []

abbrev pub with_first : Option Span → List (Place × Text) → List (Place × Text)
with_first None places = places
with_first (Some first) places = with_place first (codes "stands here first") places

-- the place of a fault, and the second one, if there is one
abbrev pub places : Fault → List (Place × Text)
places fault = with_first fault.first (with_place fault.span (label fault.reason) [])

-- a fault as a front end reports it
unfoldable pub attribute_fault : Fault → FaultValue
attribute_fault fault = record { message = message fault.reason; spans = places fault; notes = [] }
