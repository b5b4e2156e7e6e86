use Rattle.std.proofs.Common.{◌≡◌, ◌∙◌, ◌<◌, ℕ, List, Vec, Global, true, false, All, ap, sym, subst, length, map, []}
use Rattle.std.proofs.lemmas.List.{length-map}
use Rattle.naga_oil_form.specs.Links.{lists, started, is_marked, has, AreEarlier, AreMarks}
use Rattle.naga_oil_form.specs.BodyForm.{is_result, callee, AreFine}
use Rattle.naga_oil_form.proofs.FormLemmas.{and_decides, decides_by}
use Rattle.naga_oil_form.proofs.FunctionLemmas.{unmarked_decides}
use Rattle.naga_oil_form.proofs.body.may_stand.Goals as goal

pub returns : goal.returns
returns c =
    let read = c.args.read.now in
    let inits = c.args.inits.now in
    let s = started (lists read.links.items) inits in
    let Clear : List ℕ → Type 0 = λ ks. (k : ℕ) → is_marked c.deref-5.result.now k ≡ true → is_result ks k ≡ false in
    let Earlier : List (Vec ℕ Global) → Type 0 = λ vs. AreEarlier (lists vs) in
    let Below : ℕ → Type 0 = λ n. All (λ x. x < n) inits in
    let same = λ (k : ℕ). c.in_ok-started.ensures k ∙ ap (λ vs. has (started (lists vs) inits) k) c.deref-2.ensures.value in
    let m : AreMarks c.deref-3.result.now s = λ k. ap (λ fs. is_marked fs k) c.deref-3.ensures.value ∙ same k in
    let n : AreMarks c.deref-5.result.now s = λ k. ap (λ fs. is_marked fs k) c.deref-5.ensures.value ∙ same k in
    let Body : ℕ → Type 0 = λ n. AreFine n read.kinds.items (map callee read.named.items) (lists read.links.items) s [] c.args.tokens.now in
    let long : length read.links.items ≡ length (lists read.links.items) = sym (length-map read.links.items (λ (v : Vec ℕ Global). v.items)) in
    let clear = unmarked_decides c.deref-5.result.now (is_result read.kinds.items) s _ n (decides_by Clear _ _ _ c.deref-4.ensures.value c.no_result_is_marked.ensures) in
    let both = and_decides _ _ (decides_by Body _ _ _ long (c.in_ok-fine.ensures s m)) clear in
    let earlier = subst Earlier c.deref.ensures.value (c.are_earlier.ensures.0 c.if-not-are_earlier.false) in
    let there = subst Below (c.len.ensures ∙ read.links.ok.0 ∙ long) (c.are_below.ensures.0 c.if-not-are_below.false) in
    (λ h. record { earlier = earlier; there = there; no_results = (both.0 h).1; body = (both.0 h).0 }, λ r. both.1 (r.body, r.no_results))
