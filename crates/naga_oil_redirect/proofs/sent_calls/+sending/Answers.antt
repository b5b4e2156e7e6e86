use Rattle.std.proofs.Common.{◌∙◌, ap, sym, arith}
use Rattle.std.specs.List.{flat_map}
use Rattle.std.proofs.lemmas.List.{take_all}
use Rattle.naga_oil_ir.specs.Body.{spanned_tokens, statement_tokens}
use Rattle.naga_oil_ir.proofs.BodyLemmas.{block_tokens-out}
use Rattle.naga_oil_rename.specs.Renames.{rename_tokens}
use Rattle.naga_oil_redirect.specs.Redirected.{sent}
use Rattle.naga_oil_redirect.proofs.SendingLemmas.{sent_inner, sent_if, sent_loop, sent_switch, sent_call}
use Rattle.naga_oil_redirect.proofs.sent_calls.+sending.Goals as goal

pub send_block-returns : goal.send_block-returns
send_block-returns t c =
    let now = c.loop-place.block.body.items in
    let old = c.args.block.now.body.items in
    let long = c.loop-place.invariant.unvisited.0 in
    let all = take_all c.loop-place.place now (omega (arith, c.loop-place.block.body.ok.0, c.args.block.now.body.ok.0, long)) in
    let all_old = take_all c.loop-place.place old (omega (arith, c.args.block.now.body.ok.0)) in
    let r = sent c.args.from c.args.to in
    block_tokens-out c.loop-place.block ∙ ap (flat_map spanned_tokens) (sym all) ∙ c.loop-place.invariant.sent ∙ ap (λ xs. rename_tokens r (flat_map spanned_tokens xs)) all_old ∙ ap (rename_tokens r) (sym (block_tokens-out c.args.block.now))

pub send_statement-returns-in-Call : goal.send_statement-returns-in-Call
send_statement-returns-in-Call t c =
    sent_call c.args.from c.args.to c.in-Call.callee c.send_callee.new.function c.in-Call.arguments c.in-Call.result c.send_callee.ensures ∙ ap (λ s. rename_tokens (sent c.args.from c.args.to) (statement_tokens s)) (sym c.in-Call.is ∙ c.replace.ensures.value)

pub send_statement-returns-in-Block : goal.send_statement-returns-in-Block
send_statement-returns-in-Block t c =
    sent_inner c.args.from c.args.to c.send_block.new.block c.in-Block.block c.send_block.ensures ∙ ap (λ s. rename_tokens (sent c.args.from c.args.to) (statement_tokens s)) (sym c.in-Block.is ∙ c.replace.ensures.value)

pub send_statement-returns-in-If : goal.send_statement-returns-in-If
send_statement-returns-in-If t c =
    sent_if c.args.from c.args.to c.in-If.condition c.send_block-in-If.new.block c.in-If.accept c.send_block-in-If-2.new.block c.in-If.reject c.send_block-in-If.ensures c.send_block-in-If-2.ensures ∙ ap (λ s. rename_tokens (sent c.args.from c.args.to) (statement_tokens s)) (sym c.in-If.is ∙ c.replace.ensures.value)

pub send_statement-returns-in-Switch : goal.send_statement-returns-in-Switch
send_statement-returns-in-Switch t c =
    sent_switch c.args.from c.args.to c.in-Switch.selector c.send_cases.new.cases c.in-Switch.cases c.send_cases.ensures ∙ ap (λ s. rename_tokens (sent c.args.from c.args.to) (statement_tokens s)) (sym c.in-Switch.is ∙ c.replace.ensures.value)

pub send_statement-returns-in-Loop : goal.send_statement-returns-in-Loop
send_statement-returns-in-Loop t c =
    sent_loop c.args.from c.args.to c.in-Loop.break_if c.send_block-in-Loop.new.block c.in-Loop.body c.send_block-in-Loop-2.new.block c.in-Loop.continuing c.send_block-in-Loop.ensures c.send_block-in-Loop-2.ensures ∙ ap (λ s. rename_tokens (sent c.args.from c.args.to) (statement_tokens s)) (sym c.in-Loop.is ∙ c.replace.ensures.value)
