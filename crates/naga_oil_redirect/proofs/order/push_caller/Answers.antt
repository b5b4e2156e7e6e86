use Rattle.std.proofs.Common.{◌∙◌, ◌<◌, ◌++◌, ◌∷◌, [], get_or, length, length-set, sym, ap, arith}
use Rattle.naga_oil_form.proofs.LinkLemmas.{linked-at}
use Rattle.naga_oil_redirect.proofs.LevelLoops.{push_more}
use Rattle.naga_oil_redirect.proofs.order.push_caller.Goals as goal

pub loop-callee-preserved : goal.loop-callee-preserved
loop-callee-preserved c =
    let vs = c.loop-callee.callers.items in
    let j = get_or c.args.callees.now c.loop-callee.callee-index 0 in
    let within = c.requires c.loop-callee.callee-index 0 (omega arith) in
    let i : j < length vs = omega (arith, within, c.loop-callee.invariant.long) in
    let items = c.in_ok-push.ensures.items ∙ ap (λ xs. xs ++ c.args.function ∷ []) (sym (linked-at vs j c.index_mut.result.now i c.index_mut.ensures.value)) in
    record {
      long = length-set vs j c.push.new.self ∙ c.loop-callee.invariant.long;
      callers = push_more c.args.callers.now.items vs c.args.callees.now c.loop-callee.callee-index c.args.function c.push.new.self (omega arith) i items c.loop-callee.invariant.callers;
    }
