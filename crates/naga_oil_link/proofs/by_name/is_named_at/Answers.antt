use Rattle.std.proofs.Common.{◌≡◌, ◌<◌, length, get_or, sym, ap, ◌∙◌, arith}
use Rattle.std.proofs.lemmas.Grind.{get_or_default_zero}
use Rattle.std.specs.Ordering.{is_eq}
use Rattle.naga_oil_link.specs.ByName.{text_at, is_name, listed_names}
use Rattle.naga_oil_link.proofs.IndexLemmas.{same_name}
use Rattle.naga_oil_link.proofs.by_name.is_named_at.Goals as goal

pub returns-then-at-len : goal.returns-then-at-len
returns-then-at-len c =
    let names = listed_names c.args.of in
    let xs = c.args.index.now.items in
    let q = c.args.name.now in
    let n = c.args.at in
    let below : n < length xs = omega (arith, c.args.index.now.ok.0, c.len.ensures, c.if-at-len.true) in
    let here : c.index.result.now ≡ get_or xs n 0 = c.index.ensures ∙ get_or_default_zero xs n _ below in
    let told : is_name q (text_at names (get_or xs n 0)) ≡ c.is_eq.result = ap (λ k. is_name q (text_at names k)) (sym here) ∙ sym (same_name q (text_at names c.index.result.now)) ∙ ap is_eq (sym c.compare.ensures) ∙ sym c.is_eq.ensures in
    ((λ yes. (below, told ∙ yes)), (λ both. sym told ∙ both.1))
