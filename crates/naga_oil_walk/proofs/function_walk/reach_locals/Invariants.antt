use Rattle.std.proofs.Common.{◌≡◌, take}
use Rattle.std.specs.List.{flat_map}
use Rattle.naga_oil_form.specs.Links.{lists, added, trail}
use Rattle.naga_oil_form.specs.WellFormed.{initialisers_of}
use Rattle.naga_oil_walk.specs.Walk.{IsReachOrder}
use Rattle.naga_oil_walk.specs.Walks.{IsOver}
use Rattle.naga_oil_walk.specs.Naming.{local_names, Adds}
use Rattle.naga_oil_walk.proofs.function_walk.reach_locals.Given as goal

abbrev pub invariant-loop-local : goal.invariant-loop-local
invariant-loop-local l = record {
  so_far : l.walk.places.items ≡ added l.fn.walk.places.items (flat_map (trail (lists l.of.links.items)) (initialisers_of (take l.local-index l.locals)));
  emitted : l.walk.emitted ≡ l.fn.walk.emitted;
  ready : IsReachOrder (lists l.of.links.items) l.walk.places.items;
  requests : Adds l.fn.walk.requests.items (flat_map (local_names l.of.named.items (lists l.of.links.items)) (take l.local-index l.locals)) l.walk.requests.items;
  over : IsOver l.of l.walk;
}
