use Rattle.std.proofs.Common.{rules, arith}
use Rattle.std.proofs.lemmas.Grind.{common_steps}
use Rattle.yettuvam_wgsl_scope.specs.Order.{finish_all, state_of}
use Rattle.yettuvam_wgsl_scope.proofs.Turns.{one_more, no_more}
use Rattle.yettuvam_wgsl_scope.proofs.order.Sorter.finish_all.Goals as goal

pub returns-then-not-branch : goal.returns-then-not-branch
unfolding finish_all
returns-then-not-branch c =
    let e = one_more (λ n. finish_all n (state_of c.loop-turn.self)) _ c.loop-turn._turn c.loop-turn-test.true c.loop-turn.invariant in
    first_of (search rules, grind (arith, common_steps))

pub returns-in_err-step : goal.returns-in_err-step
unfolding finish_all
returns-in_err-step c =
    let e = one_more (λ n. finish_all n (state_of c.loop-turn.self)) _ c.loop-turn._turn c.loop-turn-test.true c.loop-turn.invariant in
    first_of (search rules, grind (arith, common_steps))

pub loop-turn-preserved : goal.loop-turn-preserved
unfolding finish_all
loop-turn-preserved c =
    let e = one_more (λ n. finish_all n (state_of c.loop-turn.self)) _ c.loop-turn._turn c.loop-turn-test.true c.loop-turn.invariant in
    first_of (search rules, grind (arith, common_steps))

pub returns : goal.returns
unfolding finish_all
returns c =
    let e = no_more (λ n. finish_all n (state_of c.loop-turn.self)) _ c.loop-turn._turn c.loop-turn-test.false c.loop-turn.invariant in
    first_of (search rules, grind (arith, common_steps))
