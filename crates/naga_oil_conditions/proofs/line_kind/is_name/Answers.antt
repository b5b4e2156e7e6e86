use Rattle.std.proofs.Common.{◌≡◌, true, false, ◌==◌, not, length, rules, ◌∙◌}
use Rattle.naga_oil_conditions.proofs.LineKindLemmas.{names_whole, names_none}
use Rattle.naga_oil_conditions.proofs.line_kind.is_name.Goals as goal

pub returns-then-not-is_empty : goal.returns-then-not-is_empty
returns-then-not-is_empty c =
    let some : not (length c.args.text.now == 0) ≡ true = search rules in
    c.is_empty-then-not-is_empty.ensures ∙ names_whole c.args.text.now _ c.past_run.utf8 c.past_run.ensures.chars some

pub returns-else-not-is_empty : goal.returns-else-not-is_empty
returns-else-not-is_empty c =
    let none : not (length c.args.text.now == 0) ≡ false = search rules in
    let test : not c.is_empty.result ≡ false = search rules in
    test ∙ names_none c.args.text.now none
