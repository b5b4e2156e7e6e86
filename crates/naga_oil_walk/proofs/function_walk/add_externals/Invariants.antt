use Rattle.std.proofs.Common.{◌≡◌, take}
use Rattle.std.specs.List.{flat_map}
use Rattle.naga_oil_form.specs.Links.{added}
use Rattle.naga_oil_walk.specs.Walk.{externals}
use Rattle.naga_oil_walk.specs.Walks.{IsOver}
use Rattle.naga_oil_walk.specs.Naming.{requests_at, Adds}
use Rattle.naga_oil_walk.proofs.function_walk.add_externals.Given as goal

abbrev pub invariant-loop-operand : goal.invariant-loop-operand
invariant-loop-operand l = record {
  so_far : l.walk.places.items ≡ added l.fn.walk.places.items (externals l.of.kinds.items (take l.operand-index l.operand-items));
  emitted : l.walk.emitted ≡ l.fn.walk.emitted;
  requests : Adds l.fn.walk.requests.items (flat_map (requests_at l.of.named.items) (externals l.of.kinds.items (take l.operand-index l.operand-items))) l.walk.requests.items;
  over : IsOver l.of l.walk;
}
