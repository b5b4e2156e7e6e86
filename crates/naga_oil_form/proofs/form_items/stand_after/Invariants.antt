use Rattle.std.proofs.Common.{◌≡◌, ℕ, ◌<◌, slice_get, Some, All, IfSome}
use Rattle.naga_oil_form.specs.ItemForm.{initialiser}
use Rattle.naga_oil_ir.specs.Rows.{expression_row}
use Rattle.naga_oil_ir.specs.declared.expression.Expression.{Expression}
use Rattle.naga_oil_ir.specs.declared.span.Span.{Span}
use Rattle.naga_oil_form.proofs.form_items.stand_after.Given as goal

abbrev pub invariant-loop-place : goal.invariant-loop-place
invariant-loop-place l = (k : ℕ) (e : Expression × Span) → k < l.place → slice_get l.items k ≡ Some e → All (λ o. IfSome (initialiser l.of o) (λ i. i < k)) (expression_row e.0).names
