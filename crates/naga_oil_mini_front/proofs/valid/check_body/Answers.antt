use Rattle.std.proofs.Common.{◌≡◌, ◌∙◌, ◌==◌, ℕ, [], sym, ap}
use borrow.Author.Tests.{eqb-true}
use Rattle.std.proofs.lemmas.List.{nil_from_length}
use Rattle.naga_oil_ir.specs.Body.{Tokens, block_tokens}
use Rattle.naga_oil_ir.specs.ModuleValue.{module_value}
use Rattle.naga_oil_ir.specs.declared.statement.Block.{out-Block}
use Rattle.naga_oil_mini_writer.proofs.WriterLemmas.{block_is_empty}
use Rattle.naga_oil_mini_front.specs.Valid.{checked}
use Rattle.naga_oil_mini_front.proofs.valid.check_body.Goals as goal

pub returns-then-is_empty : goal.returns-then-is_empty
returns-then-is_empty c =
    let body = c.args.body.now in
    let statements = (out-Block body).body in
    let none : block_tokens body ≡ [] = nil_from_length (block_tokens body) (eqb-true _ 0 (block_is_empty body ∙ ap (λ (n : ℕ). n == 0) (sym statements.ok.0) ∙ sym c.is_empty.ensures ∙ c.if-is_empty.true)) in
    ap (λ (ts : Tokens). checked (module_value c.args.of.now) ts) none
