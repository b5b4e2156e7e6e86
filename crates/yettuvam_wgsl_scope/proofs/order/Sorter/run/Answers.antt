use Rattle.std.proofs.Common.{rules, arith}
use Rattle.std.proofs.lemmas.Grind.{common_steps}
use Rattle.yettuvam_wgsl_scope.specs.Order.{run_from, state_of}
use Rattle.yettuvam_wgsl_scope.proofs.Turns.{one_more, no_more}
use Rattle.yettuvam_wgsl_scope.proofs.order.Sorter.run.Goals as goal

pub returns-in_err-root : goal.returns-in_err-root
unfolding run_from
returns-in_err-root c =
    let e = one_more (λ n. run_from c.args.turns n c.loop-item.item (state_of c.loop-item.self)) _ c.loop-item.item c.loop-item-test.true c.loop-item.invariant in
    first_of (search rules, grind (arith, common_steps))

pub loop-item-preserved : goal.loop-item-preserved
unfolding run_from
loop-item-preserved c =
    let e = one_more (λ n. run_from c.args.turns n c.loop-item.item (state_of c.loop-item.self)) _ c.loop-item.item c.loop-item-test.true c.loop-item.invariant in
    first_of (search rules, grind (arith, common_steps))

pub returns : goal.returns
unfolding run_from
returns c =
    let e = no_more (λ n. run_from c.args.turns n c.loop-item.item (state_of c.loop-item.self)) _ c.loop-item.item c.loop-item-test.false c.loop-item.invariant in
    first_of (search rules, grind (arith, common_steps))
