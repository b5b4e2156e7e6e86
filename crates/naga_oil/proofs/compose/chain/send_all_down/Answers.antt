use Rattle.std.proofs.Common.{◌≡◌, ◌∷◌, [], ℕ, List, map, String, Global, Vec, string_bytes, Ok, Err, sym, ap, ◌∙◌}
use Rattle.std.proofs.lemmas.Map.Iter.{rest_more, rest_all}
use Rattle.std.proofs.lemmas.Result.{err_from_is_err_and}
use Rattle.naga_oil_link.specs.BuiltModule.{overriding_of}
use Rattle.naga_oil.specs.Chain.{sent_down, all_sent_down}
use Rattle.naga_oil_words.specs.Texts.{texts}
use Rattle.naga_oil.proofs.ChainLemmas.{all_more, all_refused, all_down, fault_then}
use Rattle.naga_oil.proofs.compose.chain.send_all_down.Goals as goal

pub loop-base-preserved : goal.loop-base-preserved
loop-base-preserved c =
    let view : String Global × Vec (String Global) Global → List ℕ × List (List ℕ) = λ e. (string_bytes e.0, texts e.1.items) in
    let m = c.loop-base.redirector in
    let base = string_bytes c.in-Some.base.now in
    let step : c.loop-base.base-iterator ≡ (c.in-Some.base.now, c.in-Some.others.now) ∷ c.next.new.self = rest_more (λ x. (x.0.now, x.1.now)) _ _ _ _ c.in-Some.is c.next.ensures.steps in
    let down : sent_down m base (texts c.in-Some.others.now.items) [] ≡ Ok c.send_down.new.redirector = ap (λ (os : List (String Global)). sent_down m base (texts os) []) (sym c.deref.ensures.value) ∙ c.in_ok-send_down.ensures in
    sym (all_more m c.send_down.new.redirector base (texts c.in-Some.others.now.items) (map view c.next.new.self) down) ∙ ap (λ (es : List (String Global × Vec (String Global) Global)). all_sent_down m (map view es)) (sym step) ∙ c.loop-base.invariant

pub returns-in_err-send_down : goal.returns-in_err-send_down
returns-in_err-send_down c =
    let view : String Global × Vec (String Global) Global → List ℕ × List (List ℕ) = λ e. (string_bytes e.0, texts e.1.items) in
    let m = c.loop-base.redirector in
    let base = string_bytes c.in-Some.base.now in
    let step : c.loop-base.base-iterator ≡ (c.in-Some.base.now, c.in-Some.others.now) ∷ c.next.new.self = rest_more (λ x. (x.0.now, x.1.now)) _ _ _ _ c.in-Some.is c.next.ensures.steps in
    let start = c.args.redirector.now in
    let whole : all_sent_down m ((base, texts c.in-Some.others.now.items) ∷ map view c.next.new.self) ≡ all_sent_down start (overriding_of c.args.all.now) = ap (λ (es : List (String Global × Vec (String Global) Global)). all_sent_down m (map view es)) (sym step) ∙ c.loop-base.invariant in
    let p = err_from_is_err_and c.from_residual.result c.from_residual.ensures.1 in
    rw (p.1, p.2) (fault_then c.in_err-send_down.field-0.0 (λ f. sent_down m base (texts c.deref.result.now) [] ≡ Err f) (λ f. all_sent_down start (overriding_of c.args.all.now) ≡ Err f) (λ f e. sym whole ∙ all_refused m base (texts c.in-Some.others.now.items) (map view c.next.new.self) f (ap (λ (os : List (String Global)). sent_down m base (texts os) []) (sym c.deref.ensures.value) ∙ e)) c.in_err-send_down.ensures)

pub returns : goal.returns
returns c =
    let view : String Global × Vec (String Global) Global → List ℕ × List (List ℕ) = λ e. (string_bytes e.0, texts e.1.items) in
    let end : c.loop-base.base-iterator ≡ [] = rest_all (λ x. (x.0.now, x.1.now)) _ _ _ c.in-None.is c.next.ensures.steps in
    sym c.loop-base.invariant ∙ ap (λ (es : List (String Global × Vec (String Global) Global)). all_sent_down c.loop-base.redirector (map view es)) end ∙ all_down c.loop-base.redirector
