use Rattle.std.proofs.Common.{Some, None}
use Rattle.yettuvam_report.proofs.LineLemmas.{cut_parts}
use Rattle.yettuvam_report.proofs.line.cut.Goals as goal

pub returns-in-Some : goal.returns-in-Some
returns-in-Some c = cut_parts c.args.text.now c.args.at (Some (c.in-Some.before, c.in-Some.after)) c.in-Some.ensures.variant c.in-Some.ensures.front c.in-Some.ensures.back

pub returns-in-None : goal.returns-in-None
returns-in-None c = cut_parts c.args.text.now c.args.at None c.in-None.ensures.variant c.in-None.ensures.front c.in-None.ensures.back
