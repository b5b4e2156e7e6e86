use Rattle.std.proofs.Common.{◌≡◌, length}
use Rattle.naga_oil_form.specs.Links.{lists}
use Rattle.naga_oil_form.proofs.LinkLemmas.{IsSpread}
use Rattle.naga_oil_form.proofs.links.reached_from.Given as goal

abbrev pub invariant-loop-step : goal.invariant-loop-step
invariant-loop-step l = record {
  long : length l.marks.items ≡ length l.links;
  spread : IsSpread (lists l.links) l.roots (length l.links) l.step l.marks.items;
}
