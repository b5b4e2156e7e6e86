use Rattle.std.proofs.Common.{◌≡◌}
use Rattle.std.specs.List.{sum_by}
use Rattle.naga_oil_form.specs.Links.{lists}
use Rattle.naga_oil_walk.specs.Walk.{IsReachOrder}
use Rattle.naga_oil_walk.specs.Walks.{IsOver}
use Rattle.naga_oil_walk.specs.Waiting.{AreWaiting, AsksOn, finish_all, steps}
use Rattle.naga_oil_walk.proofs.function_walk.list_waiting.Given as goal

abbrev pub invariant-loop-top : goal.invariant-loop-top
invariant-loop-top l = record {
  so_far : finish_all (lists l.of.links.items) l.walk.places.items l.waiting.items ≡ finish_all (lists l.of.links.items) l.fn.walk.places.items l.initial.waiting.items;
  emitted : l.walk.emitted ≡ l.fn.walk.emitted;
  ready : IsReachOrder (lists l.of.links.items) l.walk.places.items;
  requests : AsksOn l.of.named.items (lists l.of.links.items) l.fn.walk.requests.items l.initial.waiting.items l.walk.requests.items l.waiting.items;
  over : IsOver l.of l.walk;
  waiting : AreWaiting l.of l.walk.places.items l.walk.requests.items l.waiting.items;
}

abbrev pub decreases-loop-top : goal.decreases-loop-top
decreases-loop-top l = sum_by (steps (lists l.of.links.items)) l.waiting.items
