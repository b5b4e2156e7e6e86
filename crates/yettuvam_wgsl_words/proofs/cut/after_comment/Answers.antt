use Rattle.std.proofs.Common.{rules, arith}
use Rattle.std.proofs.lemmas.Grind.{common_steps}
use Rattle.yettuvam_wgsl_words.specs.Cut.{after_comment, comment_from}
use Rattle.yettuvam_wgsl_words.proofs.Turns.{one_more, no_more}
use Rattle.yettuvam_wgsl_words.proofs.cut.after_comment.Goals as goal
use Rattle.yettuvam_wgsl_words.proofs.cut.after_comment.Goals.{then-closes_comment+else-depth-eq0, else-closes_comment+then-opens_comment, else-closes_comment+else-opens_comment}

pub loop-turn-init : goal.loop-turn-init
unfolding after_comment
loop-turn-init c = record { same = first_of (search rules, grind (arith, common_steps)); bounded = omega arith }

pub returns-then-depth-eq0 : goal.returns-then-depth-eq0
unfolding comment_from
returns-then-depth-eq0 c =
    let e = one_more (λ n. comment_from n c.loop-turn.depth c.loop-turn.rest.now) _ c.loop-turn._turn c.loop-turn-test.true c.loop-turn.invariant.same in
    first_of (search rules, grind (arith, common_steps))

pub loop-turn-preserved : goal.loop-turn-preserved
unfolding comment_from
loop-turn-preserved c =
    let e = one_more (λ n. comment_from n c.loop-turn.depth c.loop-turn.rest.now) _ c.loop-turn._turn c.loop-turn-test.true c.loop-turn.invariant.same in
    elim c.if-closes_comment.branch [
      | then-closes_comment+else-depth-eq0 w ↦ record { same = grind (arith, common_steps); bounded = grind (arith, common_steps) }
      | else-closes_comment+then-opens_comment w ↦ record { same = grind (arith, common_steps); bounded = grind (arith, common_steps) }
      | else-closes_comment+else-opens_comment w ↦ record { same = grind (arith, common_steps); bounded = grind (arith, common_steps) }
    ]

pub returns : goal.returns
unfolding comment_from
returns c =
    let e = no_more (λ n. comment_from n c.loop-turn.depth c.loop-turn.rest.now) _ c.loop-turn._turn c.loop-turn-test.false c.loop-turn.invariant.same in
    first_of (search rules, grind (arith, common_steps))
