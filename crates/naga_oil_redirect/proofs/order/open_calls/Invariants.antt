use Rattle.std.proofs.Common.{◌≡◌, ◌==◌, ◌&&◌, ℕ, nat_lt, length, map, take}
use Rattle.naga_oil_form.specs.Links.{lists, linked}
use Rattle.naga_oil_redirect.specs.Count.{bit, times}
use Rattle.naga_oil_redirect.proofs.order.open_calls.Given as goal

abbrev pub invariant-loop-function : goal.invariant-loop-function
invariant-loop-function l = record {
  pending : l.pending.items ≡ map length (lists (take l.function l.calls));
  ready : (k : ℕ) → times k l.ready.items ≡ bit (nat_lt k l.function && (length (linked (lists l.calls) k) == 0));
}
