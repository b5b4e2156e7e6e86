use Rattle.yettuvam_report.proofs.TextLemmas.{shown_end}
use Rattle.yettuvam_report.proofs.layout.push_shown.Goals as goal

pub returns : goal.returns
returns c = shown_end _ _ c.loop-first.rest.now c.in_default.ensures c.loop-first.invariant.same
