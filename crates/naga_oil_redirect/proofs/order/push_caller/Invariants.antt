use Rattle.std.proofs.Common.{◌≡◌, ◌+◌, ◌==◌, if◌then◌else◌, ℕ, [], length, take}
use Rattle.naga_oil_form.specs.Links.{lists, linked}
use Rattle.naga_oil_redirect.specs.Count.{times}
use Rattle.naga_oil_redirect.proofs.order.push_caller.Given as goal

abbrev pub invariant-loop-callee : goal.invariant-loop-callee
invariant-loop-callee l = record {
  long : length l.callers.items ≡ length l.fn.callers.items;
  callers : (c k : ℕ) → times k (linked (lists l.callers.items) c) ≡ times k (linked (lists l.fn.callers.items) c) + times c (if l.function == k then take l.callee-index l.callees else []);
}
