use Rattle.std.proofs.Common.{◌≡◌, ◌∙◌, ◌==◌, ℕ, length, [], sym, ap}
use borrow.Author.Tests.{eqb-true}
use Rattle.std.proofs.lemmas.Bool.{false≢true}
use Rattle.std.proofs.lemmas.List.{nil_from_length}
use Rattle.naga_oil_ir.specs.declared.statement.Block.{out-Block}
use Rattle.naga_oil_form.proofs.StubLemmas.{no_tokens, without_tokens}
use Rattle.naga_oil_form.proofs.form_function.is_bare.Goals.{then-len-eq0, else-len-eq0}
use Rattle.naga_oil_form.proofs.form_function.is_bare.Goals as goal

pub returns-then-len-eq0-2 : goal.returns-then-len-eq0-2
returns-then-len-eq0-2 c =
    let f = c.args.function.now in
    let statements = (out-Block f.body).body in
    let both : (f.local_variables ≡ []) × (f.expressions ≡ []) = elim c.if-len-eq0.branch [
      | then-len-eq0 w ↦ (
        nil_from_length f.local_variables (sym c.len.ensures ∙ w.if-len-eq0.true),
        nil_from_length f.expressions (sym w.len-then-len-eq0.ensures ∙ eqb-true _ 0 (sym w.value-is ∙ c.if-len-eq0-2.true)),
      )
      | else-len-eq0 w ↦ absurd (w.if-len-eq0.false (eqb-true _ 0 (sym w.value-is ∙ c.if-len-eq0-2.true)))
    ] in (
      (λ e. (both.0, both.1, without_tokens f.body (nil_from_length statements.items (sym statements.ok.0 ∙ eqb-true statements.len 0 (sym c.is_empty.ensures ∙ e))))),
      (λ s. c.is_empty.ensures ∙ ap (λ (n : ℕ). n == 0) (statements.ok.0 ∙ ap length (no_tokens f.body s.2))),
    )

pub returns-else-len-eq0-2 : goal.returns-else-len-eq0-2
returns-else-len-eq0-2 c =
    let f = c.args.function.now in (
      (λ e. absurd (false≢true (sym c.if-len-eq0-2.false ∙ e))),
      (λ s. elim c.if-len-eq0.branch [
        | then-len-eq0 w ↦ w.value-is ∙ ap (λ (n : ℕ). n == 0) (w.len-then-len-eq0.ensures ∙ ap length s.1)
        | else-len-eq0 w ↦ absurd (w.if-len-eq0.false (c.len.ensures ∙ ap length s.0))
      ]),
    )
