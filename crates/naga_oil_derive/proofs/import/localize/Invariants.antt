use Rattle.std.proofs.Common.{◌≡◌, take}
use Rattle.naga_oil_derive.specs.World.{value_of}
use Rattle.naga_oil_derive.specs.Answered.{import_state, answer_one, import_callee}
use Rattle.naga_oil_derive.specs.Putting.{Adding}
use Rattle.naga_oil_derive.proofs.AnsweredValues.{Trail}
use Rattle.naga_oil_derive.proofs.import.localize.Given as goal

abbrev pub invariant-loop-request : goal.invariant-loop-request
invariant-loop-request l = record {
  adding : Adding (value_of l.source) l.fn.copying.maps.offset (import_state l.fn.copying.maps l.fn.copying.target l.fn.functions) (import_state l.copying.maps l.copying.target l.functions);
  offset : l.copying.maps.offset ≡ l.fn.copying.maps.offset;
  trail : Trail (value_of l.source) (answer_one (import_callee l.depth (value_of l.source) l.fn.copying.maps.offset) (value_of l.source) l.fn.copying.maps.offset) (import_state l.fn.copying.maps l.fn.copying.target l.fn.functions) (take l.request-index l.request-items) (import_state l.copying.maps l.copying.target l.functions);
}
