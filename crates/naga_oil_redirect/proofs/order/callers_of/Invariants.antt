use Rattle.std.proofs.Common.{◌≡◌, ◌<◌, ◌≤◌, ℕ, length}
use Rattle.naga_oil_form.specs.Links.{lists, linked}
use Rattle.naga_oil_redirect.specs.Count.{times}
use Rattle.naga_oil_redirect.proofs.order.callers_of.Given as goal

abbrev pub invariant-loop-function : goal.invariant-loop-function
invariant-loop-function l = record {
  long : length l.callers.items ≡ length l.calls;
  done : (c k : ℕ) → k < l.function → times k (linked (lists l.callers.items) c) ≡ times c (linked (lists l.calls) k);
  others : (c k : ℕ) → l.function ≤ k → times k (linked (lists l.callers.items) c) ≡ 0;
}
