use Rattle.std.proofs.Common.{◌≡◌, ◌∙◌, ℕ, ◌<◌, ◌≤◌, List, Option, None, IfSome, nat_lt, ◌==◌, ◌&&◌, map, length, replicate, vec_len, ⊎_elim, slice_set, sym, ap, subst, arith, rules}
use Rattle.std.proofs.lemmas.Bool.{cases_lt, false≢true}
use Rattle.std.proofs.lemmas.List.{length-map, nil_from_length}
use Rattle.naga_oil_form.specs.Links.{lists, linked}
use Rattle.naga_oil_form.proofs.LinkLemmas.{linked-at}
use Rattle.naga_oil_redirect.specs.Count.{bit, times}
use Rattle.naga_oil_redirect.specs.Level.{known, above}
use Rattle.naga_oil_redirect.proofs.CountLemmas.{nones, nones-set}
use Rattle.naga_oil_redirect.proofs.GoingLemmas.{IsGoing, popped, short, enough, going_start, going_on, going_end}
use Rattle.naga_oil_redirect.proofs.order.levels_of.Goals as goal

pub loop-function-init : goal.loop-function-init
loop-function-init c =
    let calls = lists c.args.calls.now in
    let pending = c.in_ok-pending.pending.items in
    let ready = c.in_ok-pending.ready.items in
    let P : ℕ → Type 0 = λ n. IsGoing calls pending ready (replicate n None) in
    let Q : List (Option ℕ) → Type 0 = λ ls. IsGoing calls pending ready ls in
    let long = length-map c.args.calls.now (λ v. v.items) in
    let without = λ (k : ℕ). c.in_ok-pending.ensures.ready k ∙ ap (λ n. bit (nat_lt k n && (length (linked calls k) == 0))) (sym long) in
    subst Q (sym (c.in_ok-levels.ensures.items_if_clones_equal (search rules))) (subst P long (going_start calls pending ready c.in_ok-pending.ensures.pending without))

pub bounds-calls-function : goal.bounds-calls-function
bounds-calls-function c =
    let r = popped (lists c.args.calls.now) c.requires c.loop-function.pending.items c.loop-function.ready.items c.pop.new.self.items c.loop-function.levels.items c.in-Some.function c.loop-function.invariant c.in-Some.ensures.items in
    omega (arith, r.1.within, length-map c.args.calls.now (λ v. v.items))

pub offset_bounds-calls-function : goal.offset_bounds-calls-function
offset_bounds-calls-function c =
    let r = popped (lists c.args.calls.now) c.requires c.loop-function.pending.items c.loop-function.ready.items c.pop.new.self.items c.loop-function.levels.items c.in-Some.function c.loop-function.invariant c.in-Some.ensures.items in
    omega (arith, r.1.within, length-map c.args.calls.now (λ v. v.items))

pub level_above-requires : goal.level_above-requires
level_above-requires c =
    let P : List (Option ℕ) → Type 0 = λ ls. (k : ℕ) → IfSome (known ls k) (λ l. l < length ls) in
    subst P (sym c.deref-in-Some.ensures.value) (short (lists c.args.calls.now) c.loop-function.pending.items c.loop-function.ready.items c.loop-function.levels.items c.loop-function.invariant)

pub index_mut-requires : goal.index_mut-requires
index_mut-requires c =
    let r = popped (lists c.args.calls.now) c.requires c.loop-function.pending.items c.loop-function.ready.items c.pop.new.self.items c.loop-function.levels.items c.in-Some.function c.loop-function.invariant c.in-Some.ensures.items in
    omega (arith, r.1.within, c.loop-function.invariant.long, c.loop-function.levels.ok.0)

pub index-requires : goal.index-requires
index-requires c =
    let r = popped (lists c.args.calls.now) c.requires c.loop-function.pending.items c.loop-function.ready.items c.pop.new.self.items c.loop-function.levels.items c.in-Some.function c.loop-function.invariant c.in-Some.ensures.items in
    omega (arith, r.1.within, length-map c.args.calls.now (λ v. v.items), c.in_ok-callers.ensures.long, c.in_ok-callers.callers.ok.0)

pub count_off-requires : goal.count_off-requires
count_off-requires c =
    let r = popped (lists c.args.calls.now) c.requires c.loop-function.pending.items c.loop-function.ready.items c.pop.new.self.items c.loop-function.levels.items c.in-Some.function c.loop-function.invariant c.in-Some.ensures.items in
    let within : c.in-Some.function < length c.in_ok-callers.callers.items = omega (arith, r.1.within, length-map c.args.calls.now (λ v. v.items), c.in_ok-callers.ensures.long) in
    let callers = c.deref-in-Some-2.ensures.value ∙ sym (linked-at c.in_ok-callers.callers.items c.in-Some.function c.index.result.now within c.index.ensures) in
    λ k. omega (arith, ap (times k) callers ∙ c.in_ok-callers.ensures.callers c.in-Some.function k, enough (lists c.args.calls.now) c.loop-function.pending.items c.loop-function.ready.items c.loop-function.levels.items c.in-Some.function c.loop-function.invariant r.1.fresh k)

pub loop-function-smaller : goal.loop-function-smaller
loop-function-smaller c =
    let r = popped (lists c.args.calls.now) c.requires c.loop-function.pending.items c.loop-function.ready.items c.pop.new.self.items c.loop-function.levels.items c.in-Some.function c.loop-function.invariant c.in-Some.ensures.items in
    let ls = c.loop-function.levels.items in
    let f = c.in-Some.function in
    let within : f < length c.args.calls.now = omega (arith, r.1.within, length-map c.args.calls.now (λ v. v.items)) in
    let callees = c.deref.ensures.value ∙ sym (linked-at c.args.calls.now f c.index-calls-function.result within c.index-calls-function.is) in
    let found = c.level_above.ensures ∙ ap (λ v. above (map (known v) c.deref.result.now)) c.deref-in-Some.ensures.value ∙ ap (λ v. above (map (known ls) v)) callees ∙ r.1.found in
    let P : Option ℕ → Type 0 = λ o. nones (slice_set ls f o) < nones ls in
    subst P (sym found) (nones-set ls f r.0 (omega (arith, r.1.within, c.loop-function.invariant.long)) r.1.fresh)

pub loop-function-preserved : goal.loop-function-preserved
loop-function-preserved c =
    let r = popped (lists c.args.calls.now) c.requires c.loop-function.pending.items c.loop-function.ready.items c.pop.new.self.items c.loop-function.levels.items c.in-Some.function c.loop-function.invariant c.in-Some.ensures.items in
    let calls = lists c.args.calls.now in
    let ls = c.loop-function.levels.items in
    let f = c.in-Some.function in
    let within : f < length c.args.calls.now = omega (arith, r.1.within, length-map c.args.calls.now (λ v. v.items)) in
    let there : f < length c.in_ok-callers.callers.items = omega (arith, within, c.in_ok-callers.ensures.long) in
    let callees = c.deref.ensures.value ∙ sym (linked-at c.args.calls.now f c.index-calls-function.result within c.index-calls-function.is) in
    let found = c.level_above.ensures ∙ ap (λ v. above (map (known v) c.deref.result.now)) c.deref-in-Some.ensures.value ∙ ap (λ v. above (map (known ls) v)) callees ∙ r.1.found in
    let callers = c.deref-in-Some-2.ensures.value ∙ sym (linked-at c.in_ok-callers.callers.items f c.index.result.now there c.index.ensures) in
    let turned = λ (k : ℕ). ap (times k) callers ∙ c.in_ok-callers.ensures.callers f k in
    let P : Option ℕ → Type 0 = λ o. IsGoing calls c.count_off.new.pending.items c.count_off.new.ready.items (slice_set ls f o) in
    subst P (sym found) (going_on calls c.deref-in-Some-2.result.now f r.0 c.loop-function.pending.items c.count_off.new.pending.items c.loop-function.ready.items c.pop.new.self.items c.count_off.new.ready.items ls c.loop-function.invariant c.in-Some.ensures.items r.1 turned c.in_ok-count_off.ensures.long c.in_ok-count_off.ensures.pending c.in_ok-count_off.ensures.ready)

pub returns : goal.returns
returns c =
    let empty : vec_len c.loop-function.ready ≡ 0 = ⊎_elim (λ (i : 0 < vec_len c.loop-function.ready). absurd (false≢true (c.in_default.ensures.variant.1 i))) (λ (i : vec_len c.loop-function.ready ≤ 0). omega (arith, i)) (cases_lt 0 (vec_len c.loop-function.ready)) in
    let none = nil_from_length c.loop-function.ready.items (omega (arith, empty, c.loop-function.ready.ok.0)) in
    let P : List ℕ → Type 0 = λ xs. IsGoing (lists c.args.calls.now) c.loop-function.pending.items xs c.loop-function.levels.items in
    going_end (lists c.args.calls.now) c.requires c.loop-function.pending.items c.loop-function.levels.items (subst P none c.loop-function.invariant)
