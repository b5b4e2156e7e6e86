use Rattle.std.proofs.Common.{map, rules, arith}
use Rattle.std.proofs.lemmas.Grind.{common_steps}
use Rattle.yettuvam_wgsl_machine.specs.Machine.{run, state_of, table}
use Rattle.yettuvam_wgsl_machine.proofs.Turns.{one_more, no_more}
use Rattle.yettuvam_wgsl_machine.proofs.machine.Machine.run.Goals as goal

pub returns-then-not-branch : goal.returns-then-not-branch
unfolding run
returns-then-not-branch c =
    let e = one_more (λ n. run (table (map (λ r. (r.0, r.1, r.2.now)) c.args.rows.now) c.args.places.now) n (state_of c.loop-turn.self)) _ c.loop-turn._turn c.loop-turn-test.true c.loop-turn.invariant in
    first_of (search rules, grind (arith, common_steps))

pub returns-in_err-step : goal.returns-in_err-step
unfolding run
returns-in_err-step c =
    let e = one_more (λ n. run (table (map (λ r. (r.0, r.1, r.2.now)) c.args.rows.now) c.args.places.now) n (state_of c.loop-turn.self)) _ c.loop-turn._turn c.loop-turn-test.true c.loop-turn.invariant in
    first_of (search rules, grind (arith, common_steps))

pub loop-turn-preserved : goal.loop-turn-preserved
unfolding run
loop-turn-preserved c =
    let e = one_more (λ n. run (table (map (λ r. (r.0, r.1, r.2.now)) c.args.rows.now) c.args.places.now) n (state_of c.loop-turn.self)) _ c.loop-turn._turn c.loop-turn-test.true c.loop-turn.invariant in
    first_of (search rules, grind (arith, common_steps))

pub returns : goal.returns
unfolding run
returns c =
    let e = no_more (λ n. run (table (map (λ r. (r.0, r.1, r.2.now)) c.args.rows.now) c.args.places.now) n (state_of c.loop-turn.self)) _ c.loop-turn._turn c.loop-turn-test.false c.loop-turn.invariant in
    first_of (search rules, grind (arith, common_steps))
