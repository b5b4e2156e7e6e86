use Rattle.std.proofs.Common.{◌≡◌, ◌≤◌}
use Rattle.naga_oil_derive.specs.World.{value_of}
use Rattle.naga_oil_derive.specs.Answered.{import_state}
use Rattle.naga_oil_derive.specs.Pending.{IsPending, complete, pending_steps}
use Rattle.naga_oil_derive.specs.Putting.{Adding}
use Rattle.naga_oil_derive.proofs.import.answer_items.Given as goal

abbrev pub invariant-loop-request : goal.invariant-loop-request
invariant-loop-request l = record {
  pending : IsPending l.source l.functions l.top;
  value : complete (value_of l.source) l.fn.copying.maps.offset (import_state l.copying.maps l.copying.target l.functions) l.top ≡ complete (value_of l.source) l.fn.copying.maps.offset (import_state l.fn.copying.maps l.fn.copying.target l.functions) l.fn.top;
  fewer : pending_steps (value_of l.source) l.top ≤ pending_steps (value_of l.source) l.fn.top;
  adding : Adding (value_of l.source) l.fn.copying.maps.offset (import_state l.fn.copying.maps l.fn.copying.target l.functions) (import_state l.copying.maps l.copying.target l.functions);
  offset : l.copying.maps.offset ≡ l.fn.copying.maps.offset;
}

abbrev pub decreases-loop-request : goal.decreases-loop-request
decreases-loop-request l = pending_steps (value_of l.source) l.top
