use Rattle.std.proofs.Common.{reverse, arith}
use Rattle.std.proofs.lemmas.List.{length-reverse}
use Rattle.yettuvam_faults.proofs.LineLemmas.{common_end, end_differs, end_more}
use Rattle.yettuvam_faults.proofs.lines.common_back.Goals as goal

pub returns-then-a-i : goal.returns-then-a-i
returns-then-a-i c =
    let i = c.loop-i.i in
    omega (arith, c.loop-i.invariant, end_differs c.args.a.now c.args.b.now i (omega (arith, c.min-len.ensures)) (omega (arith, c.min-len.ensures)) c.if-a-i.true)

pub loop-i-preserved : goal.loop-i-preserved
loop-i-preserved c =
    let i = c.loop-i.i in
    omega (arith, c.loop-i.invariant, end_more c.args.a.now c.args.b.now i (omega (arith, c.min-len.ensures)) (omega (arith, c.min-len.ensures)) c.if-a-i.false)

pub returns : goal.returns
returns c =
    let i = c.loop-i.i in
    omega (arith, c.loop-i.invariant, common_end (reverse c.args.a.now) (reverse c.args.b.now) i (omega (arith, c.min-len.ensures, length-reverse c.args.a.now, length-reverse c.args.b.now)))
