use Rattle.std.proofs.Common.{◌∙◌, sym, ap, subst, arith, ℕ, ◌<◌, Option, Some, IfSome, length, get_or}
use Rattle.naga_oil_redirect.proofs.LevelLoops.{above_stops, above_more}
use Rattle.naga_oil_redirect.proofs.order.level_above.Goals as goal

pub returns-in_err-level : goal.returns-in_err-level
returns-in_err-level c =
    c.from_residual.ensures ∙ sym (above_stops c.args.levels.now c.args.callees.now c.loop-callee.callee-index (omega arith) (sym c.stands_at.ensures ∙ c.in_err-level.was))

pub overflow_add-level : goal.overflow_add-level
overflow_add-level c =
    let P : Option ℕ → Type 0 = λ o. IfSome o (λ l. l < length c.args.levels.now) in
    let b = subst P (sym c.stands_at.ensures ∙ c.in_ok-level.was) (c.requires (get_or c.args.callees.now c.loop-callee.callee-index 0)) in omega (arith, b)

pub loop-callee-preserved : goal.loop-callee-preserved
loop-callee-preserved c =
    above_more c.args.levels.now c.args.callees.now c.loop-callee.callee-index c.loop-callee.above c.in_ok-level.level (omega arith) c.loop-callee.invariant (sym c.stands_at.ensures ∙ c.in_ok-level.was) ∙ ap Some (sym c.max-above.ensures)
