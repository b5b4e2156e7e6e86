use Rattle.std.proofs.Common.{◌≡◌}
use Rattle.std.specs.List.{sum_by}
use Rattle.naga_oil_derive.specs.World.{value_of}
use Rattle.naga_oil_derive.specs.Copying.{goes_under}
use Rattle.naga_oil_derive.specs.Copied.{copy_state}
use Rattle.naga_oil_derive.specs.Putting.{Putting}
use Rattle.naga_oil_derive.specs.Waiting.{AreItemsWaiting, finish_items, waiting_steps}
use Rattle.naga_oil_derive.proofs.copy.Copying.copy_waiting.Given as goal

abbrev pub invariant-loop-top : goal.invariant-loop-top
invariant-loop-top l = record {
  state : finish_items (value_of l.source) l.fn.self.maps.offset (copy_state l.self.maps l.self.target) l.waiting.items ≡ finish_items (value_of l.source) l.fn.self.maps.offset (copy_state l.fn.self.maps l.fn.self.target) l.initial.waiting.items;
  putting : Putting (value_of l.source) l.fn.self.maps.offset (copy_state l.fn.self.maps l.fn.self.target) (copy_state l.self.maps l.self.target);
  offset : l.self.maps.offset ≡ l.fn.self.maps.offset;
  waiting : AreItemsWaiting l.source (goes_under l.self.maps) l.waiting.items;
}

abbrev pub decreases-loop-top : goal.decreases-loop-top
decreases-loop-top l = sum_by (waiting_steps (value_of l.source)) l.waiting.items
