use Rattle.std.proofs.Common.{◌≡◌, ◌+◌, ◌∷◌, ℕ, [], drop, Ok, refl, sym, ap, ◌∙◌, arith}
use Rattle.std.proofs.lemmas.List.{at_drop_more, at_drop_all}
use Rattle.std.proofs.lemmas.Result.{err_from_is_err_and}
use Rattle.std.specs.String.{string_bytes}
use Rattle.naga_oil_redirect.specs.Redirected.{matched, redirected}
use Rattle.naga_oil_words.specs.Texts.{is_among, texts}
use Rattle.naga_oil.specs.Chain.{sent_down}
use Rattle.naga_oil.proofs.ChainLemmas.{none_omitted, one_omitted, sent_more, not_sent, all_sent, refused_redirection}
use Rattle.naga_oil.proofs.compose.chain.send_down.Goals as goal

pub loop-other-init : goal.loop-other-init
loop-other-init c = ([], none_omitted c.new-omit.result c.new-omit.ensures.empty, refl)

pub loop-other-preserved : goal.loop-other-preserved
loop-other-preserved c =
    let i = c.loop-other.other-index in
    let others = c.args.others.now in
    let m = c.loop-other.redirector in
    let original = string_bytes c.loop-other.original.now in
    let d = c.loop-other.invariant in
    let pair : ℕ × ℕ = (c.in_ok-redirect_function.field-0.0, c.in_ok-redirect_function.field-0.1) in
    let other = string_bytes c.other-item.result in
    let more = texts (drop (i + 1) others) in
    let matches : matched m.functions original other ≡ Ok pair = ap (λ n. matched m.functions n other) (sym c.as_str.ensures.value) ∙ ap (matched m.functions c.as_str.result.now) (sym c.as_str-in-loop-other.ensures.value) ∙ c.in_ok-redirect_function.ensures.handles in
    let sent : c.redirect_function.new.self ≡ redirected m pair.0 pair.1 (is_among d.0) = c.in_ok-redirect_function.ensures.redirected ∙ ap (redirected m pair.0 pair.1) d.1 in
    let next : texts (drop i others) ≡ other ∷ more = at_drop_more texts others i c.other-item.result (omega arith) ∙ ap (λ o. texts (o ∷ drop (i + 1) others)) (sym c.other-item.is) in
    let same : string_bytes c.in_ok-clone.field-0 ≡ other = c.in_ok-clone.ensures.cases in (
      other ∷ d.0,
      one_omitted c.loop-other.omit c.insert.new.self c.in_ok-clone.field-0 d.0 c.in_ok-insert.ensures.updates d.1 ∙ ap (λ n. is_among (n ∷ d.0)) same,
      ap (λ v. sent_down v other more (other ∷ d.0)) sent ∙ sym (sent_more m original other more d.0 pair matches) ∙ ap (λ os. sent_down m original os d.0) (sym next) ∙ d.2,
    )

pub returns-in_err-redirect_function : goal.returns-in_err-redirect_function
returns-in_err-redirect_function c =
    let i = c.loop-other.other-index in
    let others = c.args.others.now in
    let m = c.loop-other.redirector in
    let original = string_bytes c.loop-other.original.now in
    let d = c.loop-other.invariant in
    let other = string_bytes c.other-item.result in
    let more = texts (drop (i + 1) others) in
    let names : matched m.functions original other ≡ matched m.functions c.as_str.result.now c.as_str-in-loop-other.result.now = ap (λ n. matched m.functions n other) (sym c.as_str.ensures.value) ∙ ap (matched m.functions c.as_str.result.now) (sym c.as_str-in-loop-other.ensures.value) in
    let next : texts (drop i others) ≡ other ∷ more = at_drop_more texts others i c.other-item.result (omega arith) ∙ ap (λ o. texts (o ∷ drop (i + 1) others)) (sym c.other-item.is) in
    let p = err_from_is_err_and c.from_residual.result c.from_residual.ensures.1 in
    rw (p.1, p.2) (refused_redirection c.in_err-redirect_function.field-0.0 (matched m.functions c.as_str.result.now c.as_str-in-loop-other.result.now) _ (λ f e. sym d.2 ∙ ap (λ os. sent_down m original os d.0) next ∙ not_sent m original other more d.0 f (names ∙ e)) c.in_err-redirect_function.ensures.handles)

pub returns : goal.returns
returns c =
    let d = c.loop-other.invariant in
    let end : texts (drop c.loop-other.other-index c.args.others.now) ≡ [] = at_drop_all texts c.args.others.now c.loop-other.other-index (omega arith) in
    sym d.2 ∙ ap (λ os. sent_down c.loop-other.redirector (string_bytes c.loop-other.original.now) os d.0) end ∙ all_sent c.loop-other.redirector (string_bytes c.loop-other.original.now) d.0
