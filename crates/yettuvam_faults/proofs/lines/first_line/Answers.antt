use Rattle.std.proofs.Common.{Some, None, sym}
use Rattle.yettuvam_faults.proofs.LineLemmas.{first_cut}
use Rattle.yettuvam_faults.proofs.lines.first_line.Goals as goal

pub returns-in-Some-clause-value : goal.returns-in-Some-clause-value
returns-in-Some-clause-value c = sym (first_cut c.args.text.now (Some (c.in-Some.line, c.in-Some._more)) c.in-Some.ensures.cases)

pub returns-in-None-clause-value : goal.returns-in-None-clause-value
returns-in-None-clause-value c = sym (first_cut c.args.text.now None c.in-None.ensures.cases)
