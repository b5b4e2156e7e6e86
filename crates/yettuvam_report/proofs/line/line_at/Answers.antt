use Rattle.yettuvam_report.proofs.LineLemmas.{line_parts}
use Rattle.yettuvam_report.proofs.line.line_at.Goals as goal

pub returns : goal.returns
returns c = line_parts c.args.text.now _ _ _ _ _ _ c.args.start c.args.end _ _ c.cut.ensures c.last_line-number.ensures.number c.last_line-number.ensures.last c.first_line.ensures c.saturating_sub.ensures c.cut-2.ensures
