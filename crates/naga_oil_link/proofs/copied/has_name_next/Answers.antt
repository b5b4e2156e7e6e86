use Rattle.std.proofs.Common.{◌≡◌, ◌∷◌, sym, ap, ◌∙◌}
use Rattle.std.proofs.lemmas.Map.Iter.{rest_more}
use Rattle.std.proofs.lemmas.Slice.Eq.{bytes_eq-Decides}
use Rattle.naga_oil_words.specs.Texts.{is_among, texts}
use Rattle.naga_oil_link.specs.CopiedBuild.{has_name_among}
use Rattle.naga_oil_link.proofs.NamesLemmas.{among_texts, first_among, left_among}
use Rattle.naga_oil_link.proofs.copied.has_name_next.Goals as goal

pub returns-then-eq-clause-next : goal.returns-then-eq-clause-next
returns-then-eq-clause-next c = left_among (texts c.args.names.now.keys) _ _ _ c.next.ensures.steps c.requires

pub returns-then-eq-clause-told : goal.returns-then-eq-clause-told
returns-then-eq-clause-told c =
    let ks = texts c.args.names.now.keys in
    let step : c.args.next.now ≡ c.in-Some-next.guess.now ∷ c.next.new.self = rest_more (λ x. x.now) _ _ _ _ c.in-Some-next.is c.next.ensures.steps in
    let same : c.as_str.result.now ≡ c.in-Some.name.now = (bytes_eq-Decides c.as_str.result.now c.in-Some.name.now).0 (sym c.eq.ensures ∙ c.if-eq.true) in
    sym (first_among ks c.args.next.now c.next.new.self c.in-Some-next.guess.now step c.requires) ∙ ap (is_among ks) (sym c.as_str.ensures.value ∙ same) ∙ ap (has_name_among ks) c.in-Some.ensures

pub returns-clause-next : goal.returns-clause-next
returns-clause-next c = left_among (texts c.args.names.now.keys) _ _ _ c.next.ensures.steps c.requires

pub returns-clause-told : goal.returns-clause-told
returns-clause-told c = c.contains.ensures ∙ among_texts c.args.names.now.keys c.in-Some.name.now ∙ ap (has_name_among (texts c.args.names.now.keys)) c.in-Some.ensures
