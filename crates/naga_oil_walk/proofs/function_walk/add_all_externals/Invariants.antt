use Rattle.std.proofs.Common.{◌≡◌, ◌-◌}
use Rattle.std.specs.List.{flat_map}
use Rattle.naga_oil_form.specs.Links.{lists, linked, added}
use Rattle.naga_oil_form.specs.BodyForm.{run}
use Rattle.naga_oil_walk.specs.Walk.{externals}
use Rattle.naga_oil_walk.specs.Walks.{IsOver}
use Rattle.naga_oil_walk.specs.Naming.{requests_at, Adds}
use Rattle.naga_oil_walk.proofs.function_walk.add_all_externals.Given as goal

abbrev pub invariant-loop-place : goal.invariant-loop-place
invariant-loop-place l = record {
  so_far : l.walk.places.items ≡ added l.fn.walk.places.items (externals l.of.kinds.items (flat_map (linked (lists l.of.links.items)) (run l.fn.range.0 (l.place - l.fn.range.0))));
  emitted : l.walk.emitted ≡ l.fn.walk.emitted;
  requests : Adds l.fn.walk.requests.items (flat_map (requests_at l.of.named.items) (externals l.of.kinds.items (flat_map (linked (lists l.of.links.items)) (run l.fn.range.0 (l.place - l.fn.range.0))))) l.walk.requests.items;
  over : IsOver l.of l.walk;
}
