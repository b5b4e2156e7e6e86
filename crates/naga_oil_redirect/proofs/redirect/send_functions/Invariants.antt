use Rattle.std.proofs.Common.{◌≡◌, ◌≤◌, ℕ, map, take, length, get_or}
use Rattle.std.specs.List.{enumerate_from}
use Rattle.std.specs.BTreeSet.{contains_text}
use Rattle.naga_oil_ir.specs.declared.module.Function.{Function}
use Rattle.naga_oil_ir.specs.declared.span.Span.{Span}
use Rattle.naga_oil_redirect.specs.Redirected.{function_values, send_at}
use Rattle.naga_oil_redirect.proofs.redirect.send_functions.Given as goal

abbrev pub invariant-loop-place : goal.invariant-loop-place
invariant-loop-place l = record {
  long : length l.items.items ≡ length l.initial.items.items;
  unvisited : (k : ℕ) (d : Function × Span) → l.place ≤ k → get_or l.items.items k d ≡ get_or l.initial.items.items k d;
  sent : function_values (take l.place l.items.items) ≡ map (send_at l.pair.0 l.pair.1 (contains_text l.omit)) (enumerate_from 0 (function_values (take l.place l.initial.items.items)));
}
