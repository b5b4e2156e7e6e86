use Rattle.std.proofs.Common.{◌≡◌, All}
use Rattle.std.specs.List.{sum_by}
use Rattle.naga_oil_derive.specs.World.{value_of}
use Rattle.naga_oil_derive.specs.Answered.{import_state}
use Rattle.naga_oil_derive.specs.Pending.{IsPending, complete_all, pending_steps}
use Rattle.naga_oil_derive.specs.Putting.{Adding}
use Rattle.naga_oil_derive.proofs.import.copy_pending.Given as goal

abbrev pub invariant-loop-top : goal.invariant-loop-top
invariant-loop-top l = record {
  value : complete_all (value_of l.source) l.fn.copying.maps.offset (import_state l.copying.maps l.copying.target l.functions) l.pending.items ≡ complete_all (value_of l.source) l.fn.copying.maps.offset (import_state l.fn.copying.maps l.fn.copying.target l.fn.functions) l.initial.pending.items;
  adding : Adding (value_of l.source) l.fn.copying.maps.offset (import_state l.fn.copying.maps l.fn.copying.target l.fn.functions) (import_state l.copying.maps l.copying.target l.functions);
  offset : l.copying.maps.offset ≡ l.fn.copying.maps.offset;
  pending : All (IsPending l.source l.functions) l.pending.items;
}

abbrev pub decreases-loop-top : goal.decreases-loop-top
decreases-loop-top l = sum_by (pending_steps (value_of l.source)) l.pending.items
