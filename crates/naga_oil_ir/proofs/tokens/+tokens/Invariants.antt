use Rattle.std.proofs.Common.{◌≡◌, ◌++◌, take}
use Rattle.std.specs.List.{flat_map}
use Rattle.naga_oil_ir.specs.Body.{spanned_tokens, case_tokens}
use Rattle.naga_oil_ir.proofs.tokens.+tokens.Given as goal

abbrev pub invariant-push_block-loop-entry : goal.invariant-push_block-loop-entry
invariant-push_block-loop-entry l =
    l.out.items ≡ l.fn.out.items ++ flat_map spanned_tokens (take l.entry-index l.entry-items)

abbrev pub invariant-push_statement-loop-case : goal.invariant-push_statement-loop-case
invariant-push_statement-loop-case l =
    l.out.items ≡ l.initial.out.items ++ flat_map case_tokens (take l.case-index l.case-items)
