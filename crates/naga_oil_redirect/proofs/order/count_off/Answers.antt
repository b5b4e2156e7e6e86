use Rattle.std.proofs.Common.{◌≡◌, ◌∙◌, ℕ, ◌+◌, ◌-◌, ◌==◌, if◌then◌else◌, [], ◌∷◌, get_or, length-set, ap, arith}
use Rattle.std.proofs.lemmas.List.{get_or_read}
use Rattle.naga_oil_form.proofs.LinkLemmas.{eq_eqb}
use Rattle.naga_oil_redirect.specs.Count.{times}
use Rattle.naga_oil_redirect.proofs.CountLemmas.{differs}
use Rattle.naga_oil_redirect.proofs.LevelLoops.{open_yet, within_from, left_more, ready_more, one_then, one_else}
use Rattle.naga_oil_redirect.proofs.order.count_off.Goals as goal
use Rattle.naga_oil_redirect.proofs.order.count_off.Goals.{then-left-eq0+in_ok-push, else-left-eq0}

pub index-requires : goal.index-requires
index-requires c =
    let one = open_yet c.args.callers.now c.loop-caller.pending.items c.args.pending.now.items c.loop-caller.caller-index (omega arith) c.requires c.loop-caller.invariant.pending in
    let i = within_from c.loop-caller.pending.items (get_or c.args.callers.now c.loop-caller.caller-index 0) one in
    omega (arith, i, c.loop-caller.pending.ok.0)

pub overflow_sub-left : goal.overflow_sub-left
overflow_sub-left c =
    let one = open_yet c.args.callers.now c.loop-caller.pending.items c.args.pending.now.items c.loop-caller.caller-index (omega arith) c.requires c.loop-caller.invariant.pending in
    let i = within_from c.loop-caller.pending.items (get_or c.args.callers.now c.loop-caller.caller-index 0) one in
    omega (arith, one, get_or_read c.loop-caller.pending.items (get_or c.args.callers.now c.loop-caller.caller-index 0) c.index.result.now i c.index.ensures 0)

pub index_mut-requires : goal.index_mut-requires
index_mut-requires c =
    let one = open_yet c.args.callers.now c.loop-caller.pending.items c.args.pending.now.items c.loop-caller.caller-index (omega arith) c.requires c.loop-caller.invariant.pending in
    let i = within_from c.loop-caller.pending.items (get_or c.args.callers.now c.loop-caller.caller-index 0) one in
    omega (arith, i, c.loop-caller.pending.ok.0)

pub loop-caller-preserved : goal.loop-caller-preserved
loop-caller-preserved c =
    let j = get_or c.args.callers.now c.loop-caller.caller-index 0 in
    let pending = c.loop-caller.pending.items in
    let v = c.index.result.now - 1 in
    let one = open_yet c.args.callers.now pending c.args.pending.now.items c.loop-caller.caller-index (omega arith) c.requires c.loop-caller.invariant.pending in
    let i = within_from pending j one in
    let read = get_or_read pending j c.index.result.now i c.index.ensures 0 in
    let next : (k : ℕ) → times k c.if-left-eq0.ready.items ≡ times k c.loop-caller.ready.items + times k (if v == 0 then j ∷ [] else []) =
    elim c.if-left-eq0.branch [ then-left-eq0+in_ok-push w ↦ one_then c.loop-caller.ready.items c.if-left-eq0.ready.items j (v == 0) (eq_eqb v 0 w.if-left-eq0.true) (ap (λ r. r.items) w.ready-is ∙ w.in_ok-push.ensures.items) | else-left-eq0 w ↦ one_else c.loop-caller.ready.items c.if-left-eq0.ready.items j (v == 0) (differs v 0 w.if-left-eq0.false) (ap (λ r. r.items) w.ready-is) ] in
    let step = ready_more pending c.loop-caller.ready.items c.if-left-eq0.ready.items j v i one next in
    record {
      long = length-set pending j v ∙ c.loop-caller.invariant.long;
      pending = left_more c.args.callers.now pending c.args.pending.now.items c.loop-caller.caller-index v (omega arith) i (omega (arith, one, read)) c.loop-caller.invariant.pending;
      ready = λ k. omega (arith, step k, c.loop-caller.invariant.ready k);
    }
