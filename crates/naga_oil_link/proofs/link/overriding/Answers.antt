use Rattle.std.proofs.Common.{◌≡◌, List, ◌∷◌, fold, sym, ap, ◌∙◌, String, Global, Vec}
use Rattle.std.proofs.lemmas.List.Sums.{fold-append}
use Rattle.std.proofs.lemmas.Map.Iter.{rest_more}
use Rattle.std.specs.List.{flat_map}
use Rattle.naga_oil_words.specs.Texts.{with_name, in_order, texts}
use Rattle.naga_oil_link.specs.BuiltModule.{built_of}
use Rattle.naga_oil_link.specs.Linked.{overriding_names}
use Rattle.naga_oil_link.proofs.LinkedLemmas.{names_by_entry}
use Rattle.naga_oil_link.proofs.link.overriding.Goals as goal

pub loop-others-init : goal.loop-others-init
unfolding in_order
loop-others-init c = ap (λ (vs : List (Vec (String Global) Global)). fold with_name (texts c.new-names.result.keys) (flat_map (λ v. texts v.items) vs)) (c.into_iter-others-iterator.ensures.into_iter_gives ∙ c.values-others-items.ensures.rest) ∙ ap (fold with_name (texts c.new-names.result.keys)) (names_by_entry c.args.of.now.override_functions.entries) ∙ ap (λ (ks : List (String Global)). fold with_name (texts ks) (overriding_names (built_of c.args.of.now))) c.new-names.ensures.empty

pub loop-others-preserved : goal.loop-others-preserved
loop-others-preserved c =
    let names = λ (v : Vec (String Global) Global). texts v.items in
    let step : c.loop-others.others-iterator ≡ c.in-Some.others.now ∷ c.next.new.self = rest_more (λ x. x.now) _ _ _ _ c.in-Some.is c.next.ensures.steps in
    let more : texts c.add_names.new.names.keys ≡ fold with_name (texts c.loop-others.names.keys) (names c.in-Some.others.now) = c.in_ok-add_names.ensures ∙ ap (λ (xs : List (String Global)). fold with_name (texts c.loop-others.names.keys) (texts xs)) c.deref.ensures.value in
    ap (λ ns. fold with_name ns (flat_map names c.next.new.self)) more ∙ sym (fold-append with_name (texts c.loop-others.names.keys) (names c.in-Some.others.now) (flat_map names c.next.new.self)) ∙ ap (λ (vs : List (Vec (String Global) Global)). fold with_name (texts c.loop-others.names.keys) (flat_map names vs)) (sym step) ∙ c.loop-others.invariant
