use Rattle.std.proofs.Common.{◌≡◌, ℕ, List, ◌∷◌, sym, ap, ◌∙◌, String, Global, string_bytes}
use Rattle.std.proofs.lemmas.Map.Iter.{rest_more}
use Rattle.std.proofs.lemmas.List.Sums.{fold-append}
use Rattle.std.specs.BTreeSet.{insert_key}
use Rattle.std.specs.List.{flat_map}
use Rattle.std.specs.Ordering.{nat_cmp}
use Rattle.naga_oil_link.specs.ByName.{with_places, places_named, listed_names}
use Rattle.naga_oil_words.specs.Texts.{texts}
use Rattle.naga_oil_link.proofs.by_name.add_named.Goals as goal

pub loop-name-preserved : goal.loop-name-preserved
loop-name-preserved c =
    let by = places_named (listed_names c.args.of) in
    let name = string_bytes c.in-Some.name.now in
    let ks = c.loop-name.places.keys in
    let rest = flat_map by (texts c.next.new.self) in
    let step : c.loop-name.name-iterator ≡ c.in-Some.name.now ∷ c.next.new.self = rest_more (λ x. x.now) _ _ _ _ c.in-Some.is c.next.ensures.steps in
    let places = ap (λ js. with_places js rest) (c.in_ok-guess.ensures.added ∙ ap (λ (q : List ℕ). with_places ks (by q)) c.as_str.ensures.value)
    ∙ sym (fold-append (insert_key nat_cmp) ks (by name) rest)
    ∙ ap (λ (ns : List (String Global)). with_places ks (flat_map by (texts ns))) (sym step)
    ∙ c.loop-name.invariant.places in
    record { places = places; guess = c.in_ok-guess.ensures.following }
