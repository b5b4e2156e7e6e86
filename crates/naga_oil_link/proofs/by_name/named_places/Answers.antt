use Rattle.std.proofs.Common.{◌≡◌, append-nil, is_some, true, false, ap, sym, ◌∙◌, arith}
use Rattle.naga_oil_link.specs.ByName.{text_at, listed_names}
use Rattle.naga_oil_link.proofs.ByNameLemmas.{places_before}
use Rattle.naga_oil_link.proofs.IndexLemmas.{same_some, named_more}
use Rattle.naga_oil_link.proofs.by_name.named_places.Goals as goal

pub loop-at-preserved : goal.loop-at-preserved
loop-at-preserved c =
    let names = listed_names c.args.of in
    let n = c.loop-at.at in
    let has : is_some (text_at names n) ≡ true = ap is_some (sym c.name.ensures) ∙ same_some (λ x. x.now) c.name.result ∙ c.if-is_none.ensures in
    c.in_ok-push.ensures.items ∙ named_more names n c.loop-at.places.items true has c.loop-at.invariant

pub loop-at-preserved-then-is_none : goal.loop-at-preserved-then-is_none
loop-at-preserved-then-is_none c =
    let names = listed_names c.args.of in
    let n = c.loop-at.at in
    let none : is_some (text_at names n) ≡ false = ap is_some (sym c.name.ensures) ∙ same_some (λ x. x.now) c.name.result ∙ c.if-is_none.ensures in
    sym (append-nil c.loop-at.places.items) ∙ named_more names n c.loop-at.places.items false none c.loop-at.invariant

pub returns : goal.returns
returns c =
    let names = listed_names c.args.of in
    let end : c.loop-at.at ≡ c.len-end.result = omega arith in
    c.shrink_to_fit.ensures.items ∙ c.loop-at.invariant ∙ ap (places_before is_some names) (end ∙ c.len-end.ensures)
