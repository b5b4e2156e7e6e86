use Rattle.std.proofs.Common.{rules}
use Rattle.naga_oil_pre.specs.DirectiveLines.{treated}
use Rattle.naga_oil_pre.proofs.directives.treated.Goals as goal

pub returns-in_err-following : goal.returns-in_err-following
unfolding treated
returns-in_err-following c = search rules

pub returns-in_err-inside : goal.returns-in_err-inside
unfolding treated
returns-in_err-inside c = search rules

pub returns-in_err-severity : goal.returns-in_err-severity
unfolding treated
returns-in_err-severity c = search rules

pub returns-in_err-rule : goal.returns-in_err-rule
unfolding treated
returns-in_err-rule c = search rules

pub returns-in_err-past_word : goal.returns-in_err-past_word
unfolding treated
returns-in_err-past_word c = search rules

pub returns-then-is_empty-2 : goal.returns-then-is_empty-2
unfolding treated
returns-then-is_empty-2 c = search rules

pub returns-else-is_empty-2 : goal.returns-else-is_empty-2
unfolding treated
returns-else-is_empty-2 c = search rules
