use Rattle.std.proofs.Common.{rules}
use Rattle.naga_oil_conditions.proofs.ReplacedLemmas.{no_name, a_name}
use Rattle.naga_oil_conditions.proofs.replace.split_name.Goals as goal

pub returns-then-is_empty : goal.returns-then-is_empty
returns-then-is_empty c = no_name _ _ _ c.text_before-name.ensures c.text_before-name.utf8 c.past_run-rest.ensures.chars (search rules)

pub returns : goal.returns
returns c = a_name _ _ _ c.text_before-name.ensures c.text_before-name.utf8 c.past_run-rest.ensures.chars (search rules) c.past_run-rest.utf8
