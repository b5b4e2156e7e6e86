use Rattle.std.proofs.Common.{rules}
use Rattle.naga_oil_pre.specs.DirectiveLines.{enabling, requiring, directive_of}
use Rattle.naga_oil_pre.proofs.DirectiveLemmas.{named_none, named_some, enabling_is, requiring_is}
use Rattle.naga_oil_pre.proofs.directives.read_directive.Goals as goal

pub returns-then-is_empty : goal.returns-then-is_empty
returns-then-is_empty c = enabling_is _ c.in-Some.list.now _ _ (search rules) (named_none enabling c.in_ok-names.names.items (search rules)) c.in_ok-names.ensures

pub returns-in-Some : goal.returns-in-Some
returns-in-Some c = enabling_is _ c.in-Some.list.now _ _ (search rules) (named_some enabling c.in_ok-names.names.items (search rules)) c.in_ok-names.ensures

pub returns-then-is_empty-2 : goal.returns-then-is_empty-2
returns-then-is_empty-2 c = requiring_is _ c.in-Some-listed.list.now _ _ (search rules) (search rules) (named_none requiring c.in_ok-names-2.names.items (search rules)) c.in_ok-names-2.ensures

pub returns-in-Some-listed : goal.returns-in-Some-listed
returns-in-Some-listed c = requiring_is _ c.in-Some-listed.list.now _ _ (search rules) (search rules) (named_some requiring c.in_ok-names-2.names.items (search rules)) c.in_ok-names-2.ensures

pub returns-in-Some-treated : goal.returns-in-Some-treated
unfolding directive_of
returns-in-Some-treated c = search rules

pub returns-in-Some-2 : goal.returns-in-Some-2
unfolding directive_of
returns-in-Some-2 c = search rules

pub returns-in-None : goal.returns-in-None
unfolding directive_of
returns-in-None c = search rules

pub returns-in-None-2 : goal.returns-in-None-2
unfolding directive_of
returns-in-None-2 c = search rules
