use Rattle.std.proofs.Common.{arith}
use Rattle.yettuvam_faults.proofs.LineLemmas.{common_end}
use Rattle.yettuvam_faults.proofs.lines.common_front.Goals as goal

pub returns-clause-value : goal.returns-clause-value
returns-clause-value c =
    let i = c.loop-i.i in
    omega (arith, c.loop-i.invariant, common_end c.args.a.now c.args.b.now i (omega (arith, c.min-len.ensures)))
