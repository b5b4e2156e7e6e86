use Rattle.std.proofs.Common.{◌≡◌, ◌-◌}
use Rattle.std.specs.List.{flat_map}
use Rattle.naga_oil_form.specs.Links.{added}
use Rattle.naga_oil_form.specs.BodyForm.{run}
use Rattle.naga_oil_walk.specs.Walks.{IsOver}
use Rattle.naga_oil_walk.specs.Naming.{requests_at, Adds}
use Rattle.naga_oil_walk.proofs.function_walk.add_emitted.Given as goal

abbrev pub invariant-loop-place : goal.invariant-loop-place
invariant-loop-place l = record {
  so_far : l.walk.places.items ≡ added l.initial.walk.places.items (run l.fn.range.0 (l.place - l.fn.range.0));
  emitted : l.walk.emitted ≡ l.initial.walk.emitted;
  requests : Adds l.initial.walk.requests.items (flat_map (requests_at l.of.named.items) (run l.fn.range.0 (l.place - l.fn.range.0))) l.walk.requests.items;
  over : IsOver l.of l.walk;
}
