use Rattle.std.proofs.Common.{arith, length-set}
use Rattle.naga_oil_form.proofs.LinkLemmas.{mark_more}
use Rattle.naga_oil_form.proofs.links.mark_all.Goals as goal

pub loop-place-preserved : goal.loop-place-preserved
loop-place-preserved c = record {
  long = simp length-set c.loop-place.invariant.long;
  marked = mark_more c.args.marks.now.items c.loop-place.marks.items c.args.places.now c.loop-place.place-index (omega arith) c.requires c.loop-place.invariant.long c.loop-place.invariant.marked;
}
