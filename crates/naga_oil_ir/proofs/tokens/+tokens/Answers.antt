use Rattle.std.proofs.Common.{◌≡◌, rules, arith, append_assoc, length, take}
use Rattle.std.proofs.lemmas.Grind.{common_steps}
use Rattle.naga_oil_ir.proofs.BodyLemmas.{block_tokens-out, switch_tokens, front_pushed, fronts}
use Rattle.naga_oil_ir.proofs.tokens.+tokens.Goals as goal

pub push_block-returns : goal.push_block-returns
push_block-returns t c = let e = block_tokens-out c.args.block.now in grind (arith, common_steps)

pub push_statement-returns-after-loop-case : goal.push_statement-returns-after-loop-case
push_statement-returns-after-loop-case t c = let e = switch_tokens c.in-Switch.selector c.in-Switch.cases in grind (arith, common_steps, append_assoc)

pub push_block-returns-in_err-push_statement : goal.push_block-returns-in_err-push_statement
push_block-returns-in_err-push_statement t c =
    let first = c.args.out.now.items in
    let before = c.loop-entry.out.items in
    let at = c.push.new.self.items in
    let last = c.push_statement.new.out.items in
    let e : take (length first) last ≡ first = fronts first before last (front_pushed _ _ _ c.loop-entry.invariant) (fronts before at last (front_pushed _ _ _ c.in_ok-push.ensures.items) c.in_err-push_statement.ensures) in
    search rules

pub push_statement-returns-in_err-push_inside-in-Switch : goal.push_statement-returns-in_err-push_inside-in-Switch
push_statement-returns-in_err-push_inside-in-Switch t c =
    let first = c.args.out.now.items in
    let head = c.extend_from_slice-in-Switch.new.self.items in
    let before = c.loop-case.out.items in
    let at = c.extend_from_slice-in-loop-case.new.self.items in
    let last = c.push_inside-in-loop-case.new.out.items in
    let inner : take (length head) last ≡ head = fronts head before last (front_pushed _ _ _ c.loop-case.invariant) (fronts before at last (front_pushed _ _ _ c.in_ok-extend_from_slice-in-Switch-2.ensures.items) c.in_err-push_inside-in-Switch.ensures) in
    let e : take (length first) last ≡ first = fronts first head last (front_pushed _ _ _ c.in_ok-extend_from_slice-in-Switch.ensures.items) inner in
    search rules

pub push_statement-returns-in_err-push_inside-in-Loop-2 : goal.push_statement-returns-in_err-push_inside-in-Loop-2
push_statement-returns-in_err-push_inside-in-Loop-2 t c =
    let first = c.args.out.now.items in
    let head = c.push-in-Loop.new.self.items in
    let body = c.push_inside-in-Loop.new.out.items in
    let last = c.push_inside-in-Loop-2.new.out.items in
    let inner : take (length head) last ≡ head = fronts head body last (front_pushed _ _ _ c.in_ok-push_inside-in-Loop.ensures) c.in_err-push_inside-in-Loop-2.ensures in
    let e : take (length first) last ≡ first = fronts first head last (front_pushed _ _ _ c.in_ok-push-in-Loop.ensures.items) inner in
    search rules
