use Rattle.std.proofs.Common.{◌≡◌, ◌∙◌, ap, sym, length, ℕ, [], ◌==◌}
use borrow.Author.Tests.{eqb-true}
use Rattle.std.proofs.lemmas.List.{nil_from_length}
use Rattle.naga_oil_ir.specs.declared.statement.Block.{out-Block}
use Rattle.naga_oil_form.proofs.StubLemmas.{no_tokens, without_tokens}
use Rattle.naga_oil_walk.proofs.function_walk.is_stub.Goals as goal

pub returns-then-len-eq0 : goal.returns-then-len-eq0
returns-then-len-eq0 c =
    let f = c.args.function.now in
    let statements = (out-Block f.body).body in
    let locals : f.local_variables ≡ [] = nil_from_length f.local_variables (sym c.len.ensures ∙ c.if-len-eq0.true) in (
      (λ e. (locals, without_tokens f.body (nil_from_length statements.items (sym statements.ok.0 ∙ eqb-true statements.len 0 (sym c.is_empty.ensures ∙ e))))),
      (λ s. c.is_empty.ensures ∙ ap (λ (n : ℕ). n == 0) (statements.ok.0 ∙ ap length (no_tokens f.body s.1))),
    )
