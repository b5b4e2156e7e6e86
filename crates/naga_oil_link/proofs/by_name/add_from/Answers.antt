use Rattle.std.proofs.Common.{◌≡◌, ℕ, ◌∷◌, ◌+◌, ◌<◌, length, drop, get_or, if◌then◌else◌, Some, true, false, refl, sym, ap, ◌∙◌, arith}
use Rattle.std.proofs.lemmas.Grind.{get_or_default_zero}
use Rattle.std.proofs.lemmas.List.{drop_more}
use Rattle.std.specs.List.{filter}
use Rattle.std.specs.Ordering.{is_eq}
use Rattle.naga_oil_link.specs.ByName.{text_at, is_name, compare_names, with_places, listed_names}
use Rattle.naga_oil_link.proofs.IndexLemmas.{same_name, past_name, ends_there, reached_more}
use Rattle.naga_oil_link.proofs.by_name.add_from.Goals as goal

pub loop-at-init : goal.loop-at-init
loop-at-init c = record { places = refl; reached = c.requires.start }

pub loop-at-preserved : goal.loop-at-preserved
loop-at-preserved c =
    let names = listed_names c.args.of in
    let q = c.args.name.now in
    let p = λ (k : ℕ). is_name q (text_at names k) in
    let xs = c.args.index.now.items in
    let i = c.loop-at.at in
    let below : i < length xs = omega (arith, c.args.index.now.ok.0, c.len-at-end.ensures, c.loop-at-test.true) in
    let x = get_or xs i 0 in
    let ks = c.loop-at.places.keys in
    let rest = filter p (drop (i + 1) xs) in
    let here : c.index.result.now ≡ x = c.index.ensures ∙ get_or_default_zero xs i _ below in
    let put : c.index-in-loop-at.result.now ≡ x = c.index-in-loop-at.ensures ∙ get_or_default_zero xs i _ below in
    let same : is_eq (compare_names (text_at names x) (Some q)) ≡ true = ap (λ k. is_eq (compare_names (text_at names k) (Some q))) (sym here) ∙ ap is_eq (sym c.compare.ensures) ∙ sym c.if-not-is_eq.ensures in
    let is : p x ≡ true = sym (same_name q (text_at names x)) ∙ same in
    record {
      places =
          ap (λ js. with_places js rest) c.in_ok-insert.ensures.keys
          ∙ ap (λ k. with_places ks (k ∷ rest)) put
          ∙ ap (λ b. with_places ks (if b then x ∷ rest else rest)) (sym is)
          ∙ ap (λ ys. with_places ks (filter p ys)) (sym (drop_more xs i 0 below))
          ∙ c.loop-at.invariant.places;
      reached = reached_more names xs q i below c.loop-at.invariant.reached same;
    }

pub returns-then-not-is_eq-clause-added : goal.returns-then-not-is_eq-clause-added
returns-then-not-is_eq-clause-added c =
    let names = listed_names c.args.of in
    let index = c.args.index.now in
    let q = c.args.name.now in
    let i = c.loop-at.at in
    let below : i < length index.items = omega (arith, index.ok.0, c.len-at-end.ensures, c.loop-at-test.true) in
    let here : c.index.result.now ≡ get_or index.items i 0 = c.index.ensures ∙ get_or_default_zero index.items i _ below in
    let other : is_eq (compare_names (text_at names (get_or index.items i 0)) (Some q)) ≡ false = ap (λ k. is_eq (compare_names (text_at names k) (Some q))) (sym here) ∙ ap is_eq (sym c.compare.ensures) ∙ sym c.if-not-is_eq.ensures in
    ap (with_places c.loop-at.places.keys) (sym (past_name names index q i i c.requires.index c.loop-at.invariant.reached (omega arith) below other))
    ∙ c.loop-at.invariant.places

pub returns-then-not-is_eq-clause-following : goal.returns-then-not-is_eq-clause-following
returns-then-not-is_eq-clause-following c =
    let names = listed_names c.args.of in
    let xs = c.args.index.now.items in
    let q = c.args.name.now in
    let i = c.loop-at.at in
    ends_there names xs q i c.loop-at.invariant.reached (λ below.
    let here : c.index.result.now ≡ get_or xs i 0 = c.index.ensures ∙ get_or_default_zero xs i _ below in
    ap (λ k. is_eq (compare_names (text_at names k) (Some q))) (sym here) ∙ ap is_eq (sym c.compare.ensures) ∙ sym c.if-not-is_eq.ensures)
