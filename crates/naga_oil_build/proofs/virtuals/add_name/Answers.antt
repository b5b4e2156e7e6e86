use Rattle.std.proofs.Common.{◌≡◌, ◌++◌, ◌∷◌, [], false, sym, ap, ◌∙◌, rules}
use borrow.Author.Tests.{tests}
use Rattle.std.proofs.lemmas.List.{map-append}
use Rattle.std.specs.Str.{bytes_eq}
use Rattle.std.specs.String.{string_bytes}
use Rattle.std.proofs.lemmas.Iterator.{YieldsList-from_slice}
use Rattle.std.proofs.lemmas.Iterator.Search.{any_from_yields_List}
use Rattle.naga_oil_words.specs.Texts.{is_among, texts}
use Rattle.naga_oil_build.proofs.OverridingLemmas.{there, not_there, any_among}
use Rattle.naga_oil_build.proofs.virtuals.add_name.Goals as goal

pub returns-else-not-any : goal.returns-else-not-any
returns-else-not-any c =
    let found = any_from_yields_List (λ n. bytes_eq (string_bytes n) c.args.name.now) _ _ c.any.result c.any.ensures.ran (YieldsList-from_slice c.args.names.now.items (search rules)) (λ x b q k. search (rules, tests)) in
    there (texts c.args.names.now.items) c.args.name.now (sym (any_among c.args.names.now.items c.args.name.now) ∙ sym found ∙ c.if-not-any.false)

pub returns-in_ok-push : goal.returns-in_ok-push
returns-in_ok-push c =
    let found = any_from_yields_List (λ n. bytes_eq (string_bytes n) c.args.name.now) _ _ c.any.result c.any.ensures.ran (YieldsList-from_slice c.args.names.now.items (search rules)) (λ x b q k. search (rules, tests)) in
    let absent : is_among (texts c.args.names.now.items) c.args.name.now ≡ false = sym (any_among c.args.names.now.items c.args.name.now) ∙ sym found ∙ c.if-not-any.true in
    ap texts c.in_ok-push.ensures.items ∙ map-append string_bytes c.args.names.now.items (c.in_ok-from_str.field-0 ∷ []) ∙ ap (λ n. texts c.args.names.now.items ++ n ∷ []) c.in_ok-from_str.ensures.ok ∙ not_there (texts c.args.names.now.items) c.args.name.now absent
