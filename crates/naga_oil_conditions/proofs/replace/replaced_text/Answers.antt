use Rattle.std.proofs.Common.{sym, rules}
use Rattle.std.proofs.lemmas.Str.Pattern.{contains_char}
use Rattle.naga_oil_conditions.specs.Replaced.{replaced}
use Rattle.naga_oil_conditions.proofs.ReplacedLemmas.{cannot_be_plain, replaced_plain}
use Rattle.naga_oil_conditions.proofs.replace.replaced_text.Goals as goal

pub returns-then-not-contains-clause-value : goal.returns-then-not-contains-clause-value
unfolding replaced
returns-then-not-contains-clause-value c = sym (replaced_plain _ _ c.utf8.line c.if-not-contains.ensures.cases)

pub returns-in_err-push_replaced-clause-borrows : goal.returns-in_err-push_replaced-clause-borrows
returns-in_err-push_replaced-clause-borrows c = λ none. absurd (cannot_be_plain _ ((contains_char 35 _ _ c.contains.ensures.cases (search rules)).0 c.if-not-contains.false) none)

pub returns-clause-borrows : goal.returns-clause-borrows
returns-clause-borrows c = λ none. absurd (cannot_be_plain _ ((contains_char 35 _ _ c.contains.ensures.cases (search rules)).0 c.if-not-contains.false) none)
