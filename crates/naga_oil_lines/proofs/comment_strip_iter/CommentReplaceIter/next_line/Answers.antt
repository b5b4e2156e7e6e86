use Rattle.std.proofs.Common.{length, ap, arith}
use Rattle.naga_oil_lines.proofs.CoveredLinesLemmas.{covered_lines_first, covered_lines_next, texts_next, same_line}
use Rattle.naga_oil_lines.proofs.comment_strip_iter.CommentReplaceIter.next_line.Goals as goal

pub returns-in-Ok-clause-texts : goal.returns-in-Ok-clause-texts
returns-in-Ok-clause-texts c =
    let step = c.in-Some.ensures.steps.0 in
    texts_next _ _ _ _ c.if-self.false step.0 step.2

pub returns-in-Ok-clause-covers : goal.returns-in-Ok-clause-covers
returns-in-Ok-clause-covers c =
    let step = c.in-Some.ensures.steps.0 in
    covered_lines_next _ _ _ _ _ _ _ c.if-self.false step.0 step.2 c.in-Ok.ensures.covers

pub returns-in-Ok-clause-borrows : goal.returns-in-Ok-clause-borrows
returns-in-Ok-clause-borrows c = λ line more going code first unmarked.
    let step = c.in-Some.ensures.steps.0 in
    c.in-Ok.ensures.borrows code (same_line _ _ _ line more step.0 step.2 first unmarked)

pub returns-in-Err-clause-refused : goal.returns-in-Err-clause-refused
returns-in-Err-clause-refused c =
    let step = c.in-Some.ensures.steps.0 in
    let more = ap length (covered_lines_first c.args.self.now.ended c.args.self.now.state _ _ _ c.if-self.false step.0 step.2) in
    omega (arith, more)

pub returns-in-Err-clause-borrows : goal.returns-in-Err-clause-borrows
returns-in-Err-clause-borrows c = λ line more going code first unmarked.
    let step = c.in-Some.ensures.steps.0 in
    c.in-Err.ensures.borrows code (same_line _ _ _ line more step.0 step.2 first unmarked)
