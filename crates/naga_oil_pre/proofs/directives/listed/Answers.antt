use Rattle.std.proofs.Common.{rules}
use Rattle.naga_oil_pre.specs.DirectiveLines.{listed}
use Rattle.naga_oil_pre.proofs.directives.listed.Goals as goal

pub returns-in_err-past_word : goal.returns-in_err-past_word
unfolding listed
returns-in_err-past_word c = search rules

pub returns-in_err-list : goal.returns-in_err-list
unfolding listed
returns-in_err-list c = search rules

pub returns-then-begins_list : goal.returns-then-begins_list
unfolding listed
returns-then-begins_list c = search rules

pub returns-else-begins_list : goal.returns-else-begins_list
unfolding listed
returns-else-begins_list c = search rules
