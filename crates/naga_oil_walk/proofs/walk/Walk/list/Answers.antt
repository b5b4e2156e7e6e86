use Rattle.std.proofs.Common.{arith, ◌<◌, length}
use Rattle.naga_oil_walk.proofs.WalkLemmas.{marks_more}
use Rattle.naga_oil_walk.proofs.walk.Walk.list.Goals as goal

pub invariant_of-self-2 : goal.invariant_of-self-2
invariant_of-self-2 c =
    let o = c.args.self.now.places.items in
    let lt : c.args.place < length c.args.self.now.marks.items = omega arith in
    record { marked = marks_more c.args.self.now.marks.items o c.push.new.self.items c.args.place c.args.self.now.marked lt c.in_ok-push.ensures.items }
