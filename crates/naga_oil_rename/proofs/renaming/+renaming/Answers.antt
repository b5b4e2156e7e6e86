use Rattle.std.proofs.Common.{arith}
use Rattle.std.proofs.lemmas.Grind.{common_steps}
use Rattle.naga_oil_ir.proofs.BodyLemmas.{block_tokens-out, block_tokens-roll, switch_tokens}
use Rattle.naga_oil_rename.proofs.RenamingLemmas.{map-Use-rename, loop_tokens, call_tokens, block_inside_tokens, if_tokens}
use Rattle.naga_oil_rename.proofs.renaming.+renaming.Goals as goal

pub renamed_block-returns : goal.renamed_block-returns
renamed_block-returns g t c =
    let e = block_tokens-out c.args.block.now in
    let f = block_tokens-roll record { body = c.loop-entry.body } in
    grind (arith, common_steps)

pub renamed_statement-returns-in_ok-renamed_cases-in-Switch :
    goal.renamed_statement-returns-in_ok-renamed_cases-in-Switch
renamed_statement-returns-in_ok-renamed_cases-in-Switch g t c =
    let e = switch_tokens c.in-Switch.selector c.in-Switch.cases in
    let f = switch_tokens c.expression-in-Switch.result c.in_ok-renamed_cases-in-Switch.field-0 in
    grind (arith, common_steps)

pub renamed_statement-returns-in_ok-renamed_block-in-Loop-2 :
    goal.renamed_statement-returns-in_ok-renamed_block-in-Loop-2
renamed_statement-returns-in_ok-renamed_block-in-Loop-2 g t c =
    let e = loop_tokens c.in-Loop.body c.in-Loop.continuing c.in-Loop.break_if in
    let f = loop_tokens c.in_ok-renamed_block-in-Loop.field-0 c.in_ok-renamed_block-in-Loop-2.field-0 c.renamed_option.result in
    grind (arith, common_steps)

pub renamed_statement-returns-in_ok-renamed_list-in-Call :
    goal.renamed_statement-returns-in_ok-renamed_list-in-Call
renamed_statement-returns-in_ok-renamed_list-in-Call g t c =
    let m = map-Use-rename (g.R.Renaming.renames c.args.names.now) c.in-Call.arguments.items in
    let e = call_tokens c.in-Call.callee c.in-Call.arguments c.in-Call.result in
    let f = call_tokens c.function.result c.in_ok-renamed_list-in-Call.field-0 c.renamed_option-in-Call.result in
    grind (arith, common_steps)

pub renamed_statement-returns-in_ok-renamed_block-in-Block :
    goal.renamed_statement-returns-in_ok-renamed_block-in-Block
renamed_statement-returns-in_ok-renamed_block-in-Block g t c =
    let e = block_inside_tokens c.in-Block.x in
    let f = block_inside_tokens c.in_ok-renamed_block-in-Block.field-0 in
    grind (arith, common_steps)

pub renamed_statement-returns-in_ok-renamed_block-in-If-2 :
    goal.renamed_statement-returns-in_ok-renamed_block-in-If-2
renamed_statement-returns-in_ok-renamed_block-in-If-2 g t c =
    let e = if_tokens c.in-If.condition c.in-If.accept c.in-If.reject in
    let f = if_tokens c.expression.result c.in_ok-renamed_block-in-If.field-0 c.in_ok-renamed_block-in-If-2.field-0 in
    grind (arith, common_steps)
