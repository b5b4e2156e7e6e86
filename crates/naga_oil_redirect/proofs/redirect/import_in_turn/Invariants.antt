use Rattle.std.proofs.Common.{◌≡◌, take}
use Rattle.naga_oil_derive.specs.DerivedValue.{set_source}
use Rattle.naga_oil_derive.specs.World.{value_of}
use Rattle.naga_oil_derive.proofs.FormEntries.{HasSource}
use Rattle.naga_oil_redirect.specs.PutInOrder.{import_in_turn}
use Rattle.naga_oil_redirect.proofs.TurnForm.{AreKnown}
use Rattle.naga_oil_redirect.proofs.redirect.import_in_turn.Given as goal

abbrev pub invariant-loop-place : goal.invariant-loop-place
invariant-loop-place l = record {
  source : HasSource (value_of l.source) l.derived;
  value : l.derived ≡ import_in_turn (value_of l.source) (set_source l.fn.derived (value_of l.source) 0) (take l.place-index l.order);
  known : AreKnown (value_of l.source) (take l.place-index l.order) l.derived;
}
