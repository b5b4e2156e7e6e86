use Rattle.std.proofs.Common.{◌≡◌, eqb, ap, ◌∙◌, rules, tests}
use Rattle.std.proofs.lemmas.Iterator.{YieldsList-from_slice}
use Rattle.std.proofs.lemmas.Iterator.Search.{any_from_yields_List}
use Rattle.std.specs.List.{starts_with, list_any}
use Rattle.naga_oil_mini_front.proofs.reader.begins_with_mark.Goals as goal

pub returns : goal.returns
returns c =
    let text = c.args.text.now in
    let any : c.any.result ≡ list_any (λ mark. starts_with eqb text mark.now) c.iter.result.rest.now = any_from_yields_List _ _ _ c.any.result c.any.ensures.ran (YieldsList-from_slice c.iter.result.rest.now cc) (λ x b q k. search (rules, tests)) in
    any ∙ ap (list_any (λ mark. starts_with eqb text mark.now)) c.iter.ensures.rest
