use Rattle.std.proofs.Common.{◌≡◌, ◌∙◌, ℕ, ◌+◌, ◌==◌, if◌then◌else◌, [], ◌∷◌, length, sym, ap, arith}
use Rattle.naga_oil_form.specs.Links.{lists, linked}
use Rattle.naga_oil_form.proofs.LinkLemmas.{linked-at}
use Rattle.naga_oil_redirect.specs.Count.{times}
use Rattle.naga_oil_redirect.proofs.LevelLoops.{zero_more, one_then, one_else, counts_more}
use Rattle.naga_oil_redirect.proofs.order.open_calls.Goals as goal
use Rattle.naga_oil_redirect.proofs.order.open_calls.Goals.{then-is_empty+in_ok-push, else-is_empty}

pub loop-function-preserved : goal.loop-function-preserved
loop-function-preserved c =
    let vs = c.args.calls.now in
    let f = c.loop-function.function in
    let v = c.index-calls-function.result in
    let at = linked-at vs f v (omega arith) c.index-calls-function.is in
    let long = v.ok.0 ∙ ap length (sym at) in
    let b = length (linked (lists vs) f) == 0 in
    let empty : c.is_empty.result ≡ b = c.is_empty.ensures ∙ ap (λ n. n == 0) long in
    let next : (k : ℕ) → times k c.if-is_empty.ready.items ≡ times k c.loop-function.ready.items + times k (if b then f ∷ [] else []) =
    elim c.if-is_empty.branch [ then-is_empty+in_ok-push w ↦ one_then c.loop-function.ready.items c.if-is_empty.ready.items f b (sym empty ∙ w.if-is_empty.true) (ap (λ r. r.items) w.ready-is ∙ w.in_ok-push.ensures.items) | else-is_empty w ↦ one_else c.loop-function.ready.items c.if-is_empty.ready.items f b (sym empty ∙ w.if-is_empty.false) (ap (λ r. r.items) w.ready-is) ] in
    record {
      pending = c.in_ok-push-2.ensures.items ∙ counts_more vs f v c.loop-function.pending.items c.len.result (omega arith) c.index-calls-function.is (c.len.ensures ∙ v.ok.0) c.loop-function.invariant.pending;
      ready = zero_more (λ k. length (linked (lists vs) k) == 0) c.loop-function.ready.items c.if-is_empty.ready.items f c.loop-function.invariant.ready next;
    }
