use Rattle.std.proofs.Common.{◌≡◌, ◌≤◌, ℕ, map, take, get_or}
use Rattle.naga_oil_ir.specs.ModuleValue.{expression_values}
use Rattle.naga_oil_ir.specs.declared.expression.Expression.{Expression}
use Rattle.naga_oil_ir.specs.declared.span.Span.{Span}
use Rattle.naga_oil_rename.specs.Renames.{rename}
use Rattle.naga_oil_redirect.specs.Redirected.{sent}
use Rattle.naga_oil_redirect.proofs.sent_calls.send_calls.Given as goal

abbrev pub invariant-loop-entry : goal.invariant-loop-entry
invariant-loop-entry l = record {
  unvisited : (k : ℕ) (d : Expression × Span) → l.entry-index ≤ k → get_or l.entry-items k d ≡ get_or l.initial.entry-items k d;
  sent : expression_values (take l.entry-index l.entry-items) ≡ map (λ e. (rename (sent l.from l.to) e.0, e.1)) (expression_values (take l.entry-index l.initial.entry-items));
}
