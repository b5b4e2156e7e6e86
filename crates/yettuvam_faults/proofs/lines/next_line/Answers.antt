use Rattle.std.proofs.Common.{Some, None, sym}
use Rattle.yettuvam_faults.proofs.LineLemmas.{next_cut}
use Rattle.yettuvam_faults.proofs.lines.next_line.Goals as goal

pub returns-in-Some-clause-value : goal.returns-in-Some-clause-value
returns-in-Some-clause-value c = sym (next_cut c.args.text.now (Some (c.in-Some._line, c.in-Some.more)) c.in-Some.ensures.cases)

pub returns-in-None-clause-value : goal.returns-in-None-clause-value
returns-in-None-clause-value c = sym (next_cut c.args.text.now None c.in-None.ensures.cases)
