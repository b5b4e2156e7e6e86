use Rattle.std.proofs.Common.{◌≡◌, ◌∙◌, map, length, ap, sym, get_or, refl, arith}
use Rattle.naga_oil_ir.specs.Body.{block_tokens}
use Rattle.naga_oil_ir.specs.ModuleValue.{expression_values, function_value}
use Rattle.std.proofs.lemmas.List.{get_or-set_other, take_at, take_all}
use Rattle.naga_oil_ir.specs.Parts.{parts, Parts}
use Rattle.naga_oil_ir.specs.declared.expression.Expression.{Expression}
use Rattle.naga_oil_ir.specs.declared.span.Span.{Span}
use Rattle.naga_oil_rename.specs.Renames.{rename}
use Rattle.naga_oil_redirect.specs.Redirected.{sent}
use Rattle.naga_oil_redirect.proofs.SendingLemmas.{map_more_sent}
use Rattle.naga_oil_redirect.proofs.sent_calls.send_calls.Goals as goal

pub loop-entry-init : goal.loop-entry-init
loop-entry-init c = record { unvisited = λ k d h. refl; sent = refl }

pub loop-entry-preserved : goal.loop-entry-preserved
loop-entry-preserved c =
    let now = c.loop-entry.entry-items in
    let old = c.deref_mut-entry-items.result.now in
    let i = c.loop-entry.entry-index in
    let d = c.entry-item.result in
    let x : Expression × Span = (c.send_result.new.expression, (get_or now i d).1) in
    let value : Expression × Span → Parts × Span = λ e. (parts e.0, e.1) in
    let send : Parts × Span → Parts × Span = λ e. (rename (sent c.args.from c.args.to) e.0, e.1) in
    let made : value x ≡ send (value (get_or old i d)) = ap (λ p. (p, (get_or now i d).1)) c.send_result.ensures ∙ ap (λ e. send (value e)) (c.loop-entry.invariant.unvisited i d (omega arith)) in
    record {
      unvisited = λ k e h. get_or-set_other now i k x e (omega (arith, h)) ∙ c.loop-entry.invariant.unvisited k e (omega (arith, h));
      sent = map_more_sent value send old now i x d (omega arith) c.loop-entry.auto.entry-items made c.loop-entry.invariant.sent;
    }

pub returns : goal.returns
returns c =
    let now = c.loop-entry.entry-items in
    let old = c.deref_mut-entry-items.result.now in
    let items = c.into_items-expressions.result in
    let long = c.loop-entry.auto.entry-items in
    let send : Parts × Span → Parts × Span = λ e. (rename (sent c.args.from c.args.to) e.0, e.1) in
    let first = c.deref_mut-entry-items.ensures.value ∙ c.into_items-expressions.ensures ∙ c.replace.ensures.value in
    let last = c.from_items.ensures ∙ take_at now _ items.len (long ∙ ap length c.deref_mut-entry-items.ensures.value ∙ sym items.ok.0) in
    let all = take_all c.loop-entry.entry-index now (omega (arith, long)) in
    let all_old = take_all c.loop-entry.entry-index old (omega arith) in
    let values = ap expression_values (last ∙ sym all) ∙ c.loop-entry.invariant.sent ∙ ap (λ es. map send (expression_values es)) (all_old ∙ first) in
    let f = function_value c.args.function.now in
    ap (λ es. record f { expressions = es; body = block_tokens c.send_block.new.block }) values ∙ ap (λ ts. record f { expressions = map send (expression_values c.args.function.now.expressions); body = ts }) c.send_block.ensures
