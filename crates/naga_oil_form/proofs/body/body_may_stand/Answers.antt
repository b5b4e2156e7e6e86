use Rattle.std.proofs.Common.{◌∙◌, refl, sym, arith, [], map, length}
use Rattle.naga_oil_form.specs.BodyForm.{callee}
use Rattle.std.proofs.lemmas.Bool.{false≢true}
use Rattle.naga_oil_form.specs.Links.{lists}
use Rattle.naga_oil_form.proofs.FormLemmas.{at_place}
use Rattle.naga_oil_form.proofs.BodyFormLemmas.{IsWalking-here, IsWalking-fine}
use Rattle.naga_oil_form.proofs.BodyFormWords.{fine_words}
use Rattle.naga_oil_form.proofs.body.body_may_stand.Goals as goal

pub returns-then-not-take_token : goal.returns-then-not-take_token
returns-then-not-take_token c =
    λ s m. let of = c.args.of.now in
    let n = length of.read.now.links.items in
    let ls = lists of.read.now.links.items in
    let at = at_place c.args.tokens.now c.loop-token.token-index c.token-item.result (omega arith) c.token-item.is in
    let w = fine_words n of.read.now.kinds.items (map callee of.read.now.named.items) ls of.started.now s m c.args.tokens.now c.in_ok-done.done.items [] c.in_ok-done.ensures.none (c.in_ok-done.ensures.long ∙ c.len.ensures ∙ c.args.of.now.read.now.links.ok.0) in
    (λ h. absurd (false≢true h), λ a. sym c.if-not-take_token.true ∙ c.take_token.ensures.fine.1 (IsWalking-here n of.read.now.kinds.items (map callee of.read.now.named.items) ls of.started.now c.in_ok-done.done.items c.loop-token.done.items c.args.tokens.now c.loop-token.token-index c.token-item.result c.loop-token.invariant.walk at (w.1 a)))

pub returns : goal.returns
returns c =
    λ s m. let of = c.args.of.now in
    let n = length of.read.now.links.items in
    let ls = lists of.read.now.links.items in
    let w = fine_words n of.read.now.kinds.items (map callee of.read.now.named.items) ls of.started.now s m c.args.tokens.now c.in_ok-done.done.items [] c.in_ok-done.ensures.none (c.in_ok-done.ensures.long ∙ c.len.ensures ∙ c.args.of.now.read.now.links.ok.0) in
    (λ h. w.0 (IsWalking-fine n of.read.now.kinds.items (map callee of.read.now.named.items) ls of.started.now c.in_ok-done.done.items c.loop-token.done.items c.args.tokens.now c.loop-token.token-index c.loop-token.invariant.walk (omega arith)), λ a. refl)
