use Rattle.std.proofs.Common.{◌∙◌, ⊎_elim, ℕ, ◌+◌, ◌<◌, ◌≤◌, ◌==◌, if◌then◌else◌, List, [], length, All, subst, sym, ap, arith}
use Rattle.std.proofs.lemmas.Bool.{cases_lt}
use Rattle.std.proofs.lemmas.List.{length-map}
use Rattle.naga_oil_form.specs.Links.{lists, linked}
use Rattle.naga_oil_form.proofs.LinkLemmas.{linked-at, linked_past}
use Rattle.naga_oil_redirect.specs.Count.{times}
use Rattle.naga_oil_redirect.proofs.LevelLoops.{IsTurned, turn_more}
use Rattle.naga_oil_redirect.proofs.order.callers_of.Goals as goal

pub push_caller-requires : goal.push_caller-requires
push_caller-requires c =
    let at = linked-at c.args.calls.now c.loop-function.function c.index-calls-function.result (omega arith) c.index-calls-function.is ∙ sym c.deref.ensures.value in
    let P : List ℕ → Type 0 = λ xs. All (λ x. x < length c.loop-function.callers.items) xs in
    let Q : ℕ → Type 0 = λ n. All (λ x. x < n) (linked (lists c.args.calls.now) c.loop-function.function) in
    subst P at (subst Q (length-map c.args.calls.now (λ v. v.items) ∙ sym c.loop-function.invariant.long) (c.requires c.loop-function.function))

pub loop-function-preserved : goal.loop-function-preserved
loop-function-preserved c =
    let at = linked-at c.args.calls.now c.loop-function.function c.index-calls-function.result (omega arith) c.index-calls-function.is ∙ sym c.deref.ensures.value in
    let f = c.loop-function.function in
    let before : IsTurned (lists c.args.calls.now) (lists c.loop-function.callers.items) f = record { done = c.loop-function.invariant.done; others = c.loop-function.invariant.others } in
    let step = turn_more (lists c.args.calls.now) (lists c.loop-function.callers.items) (lists c.push_caller.new.callers.items) f before (λ d k. c.in_ok-push_caller.ensures.callers d k ∙ ap (λ xs. times k (linked (lists c.loop-function.callers.items) d) + times d (if f == k then xs else [])) (sym at)) in
    record { long = c.in_ok-push_caller.ensures.long ∙ c.loop-function.invariant.long; done = step.done; others = step.others }

pub returns-clause-callers : goal.returns-clause-callers
returns-clause-callers c =
    λ d k. ⊎_elim (λ (i : k < length c.args.calls.now). c.loop-function.invariant.done d k (omega (arith, i))) (λ (i : length c.args.calls.now ≤ k). c.loop-function.invariant.others d k (omega (arith, i)) ∙ sym (ap (times d) (linked_past c.args.calls.now k i))) (cases_lt k (length c.args.calls.now))
