use Rattle.std.proofs.Common.{◌<◌, ◌||◌, eqb, sym, ap, ◌∙◌, arith}
use Rattle.std.proofs.lemmas.Bool.Decides.{nat_tests}
use Rattle.unicode_ident.proofs.IdentLemmas.{is_xid_continue-ascii}
use Rattle.naga_oil_lines.proofs.tokenizer.goes_on_name.Goals as goal

pub returns-then-is_ascii_alphanumeric : goal.returns-then-is_ascii_alphanumeric
returns-then-is_ascii_alphanumeric c =
    let ascii : c.args.c < 128 = grind (arith, nat_tests, c.if-is_ascii.ensures) in
    c.if-is_ascii_alphanumeric.true ∙ sym (is_xid_continue-ascii c.args.c ascii ∙ ap (λ a. a || eqb c.args.c 95) (sym c.if-is_ascii_alphanumeric.ensures.value))

pub returns-else-is_ascii_alphanumeric : goal.returns-else-is_ascii_alphanumeric
returns-else-is_ascii_alphanumeric c =
    let ascii : c.args.c < 128 = grind (arith, nat_tests, c.if-is_ascii.ensures) in
    sym (is_xid_continue-ascii c.args.c ascii ∙ ap (λ a. a || eqb c.args.c 95) (sym c.if-is_ascii_alphanumeric.ensures.value))
