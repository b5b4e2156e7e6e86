-- The numbers of values of structs and arrays.
use Rattle.std.specs.Prelude.{ℕ, Bool, true, ◌==◌, if◌then◌else◌, List, length}
use Rattle.naga_oil_ir.specs.Parts.{Parts}
use Rattle.naga_oil_ir.specs.Rows.{Row}
use Rattle.naga_oil_ir.specs.declared.parts.Named.{Named}
use Rattle.naga_oil_ir.specs.declared.parts.Named.TheVariants.{TypeOf}
use Rattle.naga_oil_ir.specs.declared.span.Span.{Span}
use Rattle.yettuvam_wgsl_valid_items.specs.Faults.{Outcome, valid, fault, each_valid}
use Rattle.yettuvam_wgsl_valid_items.specs.Types.{takes_values}
use Rattle.yettuvam_wgsl_valid_items.specs.declared.faults.Reason.TheVariants as reason

-- the kind of an expression that is a constructor with values
abbrev pub compose_kind : ℕ
compose_kind = 13

-- what an expression names is no type that takes another number of values
abbrev pub named_takes : List (Row × Span) → Named → ℕ → Bool
named_takes types (TypeOf ty) count = takes_values types ty count
named_takes types n count = true

-- an expression that is a constructor has the number of values that its type takes
abbrev pub is_right : List (Row × Span) → Parts → Bool
is_right types p = if p.kind == compose_kind then named_takes types p.named (length p.operands) else true

abbrev pub constructor_valid : List (Row × Span) → Parts × Span → Outcome
constructor_valid types e = if is_right types e.0 then valid else fault reason.ValueCount e.1

-- each constructor has the number of values that its type takes
abbrev pub constructors_valid : List (Row × Span) → List (Parts × Span) → Outcome
constructors_valid types es = each_valid (constructor_valid types) es
