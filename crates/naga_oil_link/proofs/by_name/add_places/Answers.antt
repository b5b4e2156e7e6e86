use Rattle.std.proofs.Common.{◌≡◌, ℕ, Bool, ◌∷◌, ◌+◌, drop, get_or, if◌then◌else◌, sym, ap, ◌∙◌}
use Rattle.std.proofs.lemmas.Grind.{get_or_default_zero}
use Rattle.std.proofs.lemmas.List.{drop_more}
use Rattle.std.specs.List.{filter}
use Rattle.naga_oil_link.specs.ByName.{text_at, is_name, with_places, places_named, listed_names}
use Rattle.naga_oil_derive.proofs.FoundLemmas.{ok_then}
use Rattle.naga_oil_link.proofs.IndexLemmas.{same_name, start_there_is, reached_more}
use Rattle.naga_oil_link.proofs.by_name.add_places.Goals as goal

pub add_from-requires-clause-start : goal.add_from-requires-clause-start
add_from-requires-clause-start c =
    let names = listed_names c.args.of in
    let index = c.args.index.now in
    let q = c.args.name.now in
    let n = c.args.guess in
    let below = (c.is_named_at.ensures.0 c.if-is_named_at.true).0 in
    let named = (c.is_named_at.ensures.0 c.if-is_named_at.true).1 in
    let start = start_there_is names index q n below c.requires.index c.requires.guess named in
    reached_more names index.items q n below start.reached (same_name q (text_at names (get_or index.items n 0)) ∙ named)

pub returns-then-is_named_at-clause-added : goal.returns-then-is_named_at-clause-added
returns-then-is_named_at-clause-added c =
    let names = listed_names c.args.of in
    let index = c.args.index.now in
    let xs = index.items in
    let q = c.args.name.now in
    let n = c.args.guess in
    let below = (c.is_named_at.ensures.0 c.if-is_named_at.true).0 in
    let named = (c.is_named_at.ensures.0 c.if-is_named_at.true).1 in
    let start = start_there_is names index q n below c.requires.index c.requires.guess named in
    let p : ℕ → Bool = λ k. is_name q (text_at names k) in
    let x = get_or xs n 0 in
    let ks = c.args.places.now.keys in
    let rest = filter p (drop (n + 1) xs) in
    let put : c.index.result.now ≡ x = c.index.ensures ∙ get_or_default_zero xs n _ below in
    let all : with_places c.insert.new.self.keys rest ≡ with_places ks (places_named names q) =
    ap (λ js. with_places js rest) c.in_ok-insert.ensures.keys
    ∙ ap (λ k. with_places ks (k ∷ rest)) put
    ∙ ap (λ b. with_places ks (if b then x ∷ rest else rest)) (sym named)
    ∙ ap (λ ys. with_places ks (filter p ys)) (sym (drop_more xs n 0 below))
    ∙ ap (with_places ks) start.named in
    ok_then c.add_from.result (λ h. h ∙ all) c.add_from.ensures.added
