use Rattle.std.proofs.Common.{◌≡◌, ◌<◌, ℕ, length, MatchBool, Bool, true, false, rules, tests}
use Rattle.std.specs.List.{AllWithin, HoldsAt}
use Rattle.std.proofs.lemmas.Bool.{false≢true}
use Rattle.std.proofs.lemmas.Iterator.{cases_from_all}
use Rattle.std.proofs.lemmas.Iterator.Consumers.{YieldsList-from_rest}
use Rattle.std.proofs.lemmas.Iterator.Search.{true_from_All}
use Rattle.std.proofs.lemmas.List.Elements.{All-from_all_within}
use Rattle.naga_oil_form.specs.BodyForm.{IsSpanFine}
use Rattle.naga_oil_ir.specs.declared.span.Span.{Span}
use Rattle.naga_oil_ir.specs.declared.types.Type.{«Type» as TypeOfShader}
use Rattle.naga_oil_form.proofs.form_items.are_type_spans_fine.Goals as goal

when_true : (A B : Type 0) (b : Bool) → b ≡ true → MatchBool b A B → A
when_true A B true h m = m
when_true A B false h m = absurd (false≢true h)

pub returns : goal.returns
returns c =
    let xs = c.args.types.now in
    let P : TypeOfShader × Span → Type 0 = λ e. IsSpanFine c.args.text_len e.1 in
    let Q : TypeOfShader × Span → Type 0 = λ e. IsSpanFine c.args.text_len e.1 → ⊥ in
    let cases = cases_from_all _ _ c.all.result P Q c.all.ensures.ran (YieldsList-from_rest xs c.iter.ensures) (λ x q k. search (rules, tests)) (λ x q k. search (rules, tests)) in
    (λ h. All-from_all_within P xs (when_true (AllWithin P xs 0 (length xs)) ((k : ℕ) × (k < length xs) × HoldsAt Q xs k) c.all.result h cases), λ a. true_from_All P Q c.all.result xs (λ x p q. q p) cases a)
