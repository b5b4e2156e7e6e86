use Rattle.std.proofs.Common.{length, rules, arith}
use Rattle.std.proofs.lemmas.Grind.{common_steps}
use Rattle.yettuvam_wgsl_words.specs.Scan.{scan, scan_from, view}
use Rattle.yettuvam_wgsl_words.proofs.Turns.{one_more, no_more}
use Rattle.yettuvam_wgsl_words.proofs.scan.scan.Goals as goal

pub loop-turn-init : goal.loop-turn-init
unfolding scan
loop-turn-init c = first_of (search rules, grind (arith, common_steps))

pub returns-in_err-keep : goal.returns-in_err-keep
unfolding scan_from
returns-in_err-keep c =
    let e = one_more (λ n. scan_from (length c.args.text.now) n (view c.loop-turn.found.items) c.loop-turn.rest.now) _ c.loop-turn._turn c.loop-turn-test.true c.loop-turn.invariant in
    first_of (search rules, grind (arith, common_steps))

pub loop-turn-preserved : goal.loop-turn-preserved
unfolding scan_from
loop-turn-preserved c =
    let e = one_more (λ n. scan_from (length c.args.text.now) n (view c.loop-turn.found.items) c.loop-turn.rest.now) _ c.loop-turn._turn c.loop-turn-test.true c.loop-turn.invariant in
    first_of (search rules, grind (arith, common_steps))

pub returns-in_err-keep-2 : goal.returns-in_err-keep-2
unfolding scan_from
returns-in_err-keep-2 c =
    let e = no_more (λ n. scan_from (length c.args.text.now) n (view c.loop-turn.found.items) c.loop-turn.rest.now) _ c.loop-turn._turn c.loop-turn-test.false c.loop-turn.invariant in
    first_of (search rules, grind (arith, common_steps))

pub returns : goal.returns
unfolding scan_from
returns c =
    let e = no_more (λ n. scan_from (length c.args.text.now) n (view c.loop-turn.found.items) c.loop-turn.rest.now) _ c.loop-turn._turn c.loop-turn-test.false c.loop-turn.invariant in
    first_of (search rules, grind (arith, common_steps))
