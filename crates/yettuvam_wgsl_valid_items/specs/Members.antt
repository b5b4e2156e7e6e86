-- The members of structs.
use Rattle.std.specs.Prelude.{ℕ, Bool, true, false, not, ◌&&◌, ◌||◌, if◌then◌else◌, List, [], ◌∷◌, Some, None, bytes_eq}
use Rattle.naga_oil_ir.specs.Rows.{Row, Member, Text}
use Rattle.naga_oil_ir.specs.declared.span.Span.{Span}
use Rattle.yettuvam_wgsl_valid_items.specs.Faults.{Outcome, valid, fault, each_valid}
use Rattle.yettuvam_wgsl_valid_items.specs.declared.faults.Reason.TheVariants as reason

abbrev pub is_named : Text → List ℕ → Bool
is_named None name = false
is_named (Some own) name = bytes_eq own name

-- a member has this name
abbrev pub has_name : List Member → List ℕ → Bool
has_name [] name = false
has_name (m ∷ ms) name = is_named m.name name || has_name ms name

-- one of the members after a member has its name
abbrev pub is_named_again : Text → List Member → Bool
is_named_again None ms = false
is_named_again (Some name) ms = has_name ms name

-- no two members have one name
abbrev pub have_distinct_names : List Member → Bool
have_distinct_names [] = true
have_distinct_names (m ∷ ms) = not (is_named_again m.name ms) && have_distinct_names ms

abbrev pub type_valid : Row × Span → Outcome
type_valid t = if have_distinct_names t.0.label.members then valid else fault reason.MemberTwice t.1

-- the members of each struct have distinct names
abbrev pub types_valid : List (Row × Span) → Outcome
types_valid types = each_valid type_valid types
