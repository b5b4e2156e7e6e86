-- The copy of an expression.
use Rattle.std.specs.Prelude.{ℕ, ◌≡◌, List, slice_get, Some}
use Rattle.naga_oil_ir.specs.Parts.{parts}
use Rattle.naga_oil_ir.specs.declared.expression.Expression.{Expression}
use Rattle.naga_oil_ir.specs.declared.span.Span.{Span}
use Rattle.naga_oil_rename.specs.Renames.{Renames}
use Rattle.naga_oil_derive.specs.Copies.{Table, copied}

-- e is the expression at a place with its handles renamed, and its span
abbrev pub IsCopyAt : Renames → Table → List (Expression × Span) → ℕ → Expression × Span → Type 0
IsCopyAt r t source k e =
    (s : Expression × Span) → slice_get source k ≡ Some s →
    (parts e.0 ≡ copied r t (parts s.0)) × (e.1 ≡ r.span s.1)
