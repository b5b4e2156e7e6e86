-- Expressions of a range, seen by their parts.
use Rattle.std.proofs.Common.{◌≡◌, ℕ, ◌-◌, List, take, drop, ap, sym, ◌∙◌}
use Rattle.std.proofs.lemmas.List.{drop-map, take-map}
use Rattle.naga_oil_ir.specs.ModuleValue.{expression_values}
use Rattle.naga_oil_ir.specs.Parts.{Parts, parts}
use Rattle.naga_oil_ir.specs.declared.expression.Expression.{Expression}
use Rattle.naga_oil_ir.specs.declared.span.Span.{Span}

abbrev value_of : Expression × Span → Parts × Span
value_of e = (parts e.0, e.1)

pub values_between : (es : List (Expression × Span)) (start end : ℕ) → expression_values (take (end - start) (drop start es)) ≡ take (end - start) (drop start (expression_values es))
values_between es start end =
    sym (take-map value_of (end - start) (drop start es)) ∙ ap (take (end - start)) (sym (drop-map value_of start es))
