use Rattle.std.proofs.Common.{◌≡◌, length}
use Rattle.naga_oil_form.specs.Links.{lists}
use Rattle.naga_oil_form.proofs.BodyFormLemmas.{IsEmitting}
use Rattle.naga_oil_form.proofs.body.take_range.Given as goal

abbrev pub invariant-loop-place : goal.invariant-loop-place
invariant-loop-place l = record {
  long : length l.done.items ≡ length l.fn.done.items;
  walk : IsEmitting l.of.read.now.kinds.items (lists l.of.read.now.links.items) l.of.started.now l.fn.done.items l.done.items l.fn.range l.place;
}
