use Rattle.std.proofs.Common.{◌≡◌, [], arith, ◌+◌, ◌++◌, ◌∷◌, ℕ, List, String, Global, drop, map, string_bytes, sym, ap, ◌∙◌}
use Rattle.std.proofs.lemmas.Bool.Decides.{nat_tests}
use Rattle.std.proofs.lemmas.List.{nil_from_length}
use Rattle.std.proofs.lemmas.List.Sums.{fold-append}
use Rattle.std.specs.BTreeSet.{insert_key}
use Rattle.std.specs.List.{flat_map}
use Rattle.std.specs.Ordering.{nat_cmp}
use Rattle.std.specs.Vec.{vec_len}
use Rattle.naga_oil_words.specs.Texts.{texts}
use Rattle.naga_oil_link.specs.ByName.{with_places, places_named, listed_names}
use Rattle.naga_oil_link.specs.Linked.{decorated_names}
use Rattle.naga_oil_link.proofs.IndexLemmas.{nothing_named}
use Rattle.naga_oil_link.proofs.LinkedLemmas.{next_item}
use Rattle.naga_oil_link.proofs.by_name.add_asked.Goals as goal

pub returns-then-is_empty : goal.returns-then-is_empty
returns-then-is_empty c =
    let index = c.args.index.now in
    let long : vec_len index ≡ 0 = grind (arith, nat_tests) in
    let none : index.items ≡ [] = nil_from_length index.items (sym index.ok.0 ∙ long) in
    ap (with_places c.args.places.now.keys) (sym (nothing_named (listed_names c.args.of) index c.requires none (decorated_names c.args.asked)))

pub loop-item-preserved : goal.loop-item-preserved
loop-item-preserved c =
    let by = places_named (listed_names c.args.of) in
    let items = c.args.asked.items.now in
    let i = c.loop-item.item-index in
    let x = c.item-item.result in
    let ks = c.loop-item.places.keys in
    let decorate = λ (n : List ℕ). n ++ c.args.asked.decoration.now in
    let name = decorate (string_bytes x) in
    let rest = flat_map by (map decorate (texts (drop (i + 1) items))) in
    let step : drop i items ≡ x ∷ drop (i + 1) items = next_item items i x c.loop-item-test.true c.item-item.is in
    let text : c.as_str-in-loop-item.result.now ≡ name = c.as_str-in-loop-item.ensures.value ∙ c.in_ok-decorate.ensures ∙ ap decorate c.as_str.ensures.value in
    let places = ap (λ js. with_places js rest) (c.in_ok-guess.ensures.added ∙ ap (λ (q : List ℕ). with_places ks (by q)) text)
    ∙ sym (fold-append (insert_key nat_cmp) ks (by name) rest)
    ∙ ap (λ (is : List (String Global)). with_places ks (flat_map by (map decorate (texts is)))) (sym step)
    ∙ c.loop-item.invariant.places in
    record { places = places; guess = c.in_ok-guess.ensures.following }
