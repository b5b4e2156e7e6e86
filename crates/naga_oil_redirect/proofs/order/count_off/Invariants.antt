use Rattle.std.proofs.Common.{◌≡◌, ◌+◌, ◌==◌, ℕ, length, take, get_or}
use Rattle.naga_oil_redirect.specs.Count.{bit, times}
use Rattle.naga_oil_redirect.proofs.order.count_off.Given as goal

abbrev pub invariant-loop-caller : goal.invariant-loop-caller
invariant-loop-caller l = record {
  long : length l.pending.items ≡ length l.fn.pending.items;
  pending : (k : ℕ) → get_or l.pending.items k 0 + times k (take l.caller-index l.callers) ≡ get_or l.fn.pending.items k 0;
  ready : (k : ℕ) → times k l.ready.items + bit (get_or l.fn.pending.items k 0 == 0) ≡ times k l.fn.ready.items + bit (get_or l.pending.items k 0 == 0);
}
