-- How expressions are written before the first statement.
use Rattle.std.specs.Prelude.{if◌then◌else◌, nat_le, Bool, List, [], ◌∷◌, ◌++◌, Ok, Err}
use Rattle.naga_oil_ir.specs.Kinds.{last_external_kind}
use Rattle.naga_oil_ir.specs.Parts.{Parts}
use Rattle.naga_oil_ir.specs.declared.span.Span.{Span}
use Rattle.yettuvam_wgsl_written.specs.Written.{Written, nothing}
use Rattle.yettuvam_wgsl_written.specs.declared.written.Role.{Role}
use Rattle.yettuvam_wgsl_written.specs.declared.written.Role.TheVariants as role
use Rattle.yettuvam_wgsl_write_expressions.specs.Expressions.{expression}
use Rattle.yettuvam_wgsl_write_expressions.specs.Operands.{WrittenOutcome}
use Rattle.yettuvam_wgsl_write_bodies.specs.Setting.{Setting, scope}

-- an expression that is written where it is named, and never emitted
abbrev pub is_external : Parts → Bool
is_external p = nat_le p.kind last_external_kind

-- the name of a place means the pointer to it
abbrev pub named_role : Role → Role
named_role role.Value = role.Value
named_role _ = role.Pointer

abbrev pub or_nothing : WrittenOutcome → Written
or_nothing (Ok w) = w
or_nothing (Err span) = nothing

-- an expression before the first statement, from the earlier ones; one that isn't written has no text
abbrev pub first_written : Setting → List Written → Parts × Span → Written
first_written s known e =
    if is_external e.0 then or_nothing (expression (scope s e.1) known e.0) else nothing

unfoldable pub each_first : Setting → List Written → List (Parts × Span) → List Written
each_first s known [] = known
each_first s known (e ∷ es) = each_first s (known ++ first_written s known e ∷ []) es

-- the expressions of a function before its first statement
abbrev pub first_values : Setting → List Written
first_values s = each_first s [] s.function.expressions
