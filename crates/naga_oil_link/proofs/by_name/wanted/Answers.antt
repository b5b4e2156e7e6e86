use Rattle.std.proofs.Common.{◌≡◌, [], None, IfOk, ap, subst, sym, ◌∙◌}
use Rattle.std.proofs.lemmas.Result.{IfOk-weaker}
use Rattle.std.specs.List.{flat_map, range_with_len}
use Rattle.naga_oil_link.specs.ByName.{places_named, places_where, with_places, listed_names}
use Rattle.naga_oil_link.specs.Linked.{Asked, decorated_names, asked_names, is_wanted}
use Rattle.naga_oil_link.proofs.ByNameLemmas.{every_place, some_wanted}
use Rattle.naga_oil_link.proofs.by_name.wanted.Goals as goal

pub returns : goal.returns
returns c =
    let names = listed_names c.args.of in
    let keys = c.add_asked.new.places.keys in
    let asked = decorated_names c.in-Some.asked in
    let made = c.in_ok-add_asked.ensures ∙ ap (λ ks. with_places ks (flat_map (places_named names) asked)) c.new-places.ensures.empty ∙ some_wanted names asked in
    subst (λ (a : Asked). keys ≡ places_where (is_wanted a) names) (ap asked_names (sym c.in-Some.is)) made

pub returns-in_default : goal.returns-in_default
returns-in_default c =
    let names = listed_names c.args.of in
    let n = c.len.result in
    subst (λ (a : Asked). IfOk c.all_places.result (λ places. places.keys ≡ places_where (is_wanted a) names)) (ap asked_names (sym c.in_default.is))
    (IfOk-weaker c.all_places.result (λ places. places.keys ≡ with_places [] (range_with_len 0 n)) (λ places. places.keys ≡ places_where (is_wanted None) names)
    (λ places h. h ∙ ap (λ k. with_places [] (range_with_len 0 k)) c.len.ensures ∙ every_place names) c.all_places.ensures)
