use Rattle.std.proofs.Common.{◌∙◌, ℕ, sym, subst, refl, List, Option, All, IfSome, ◌<◌, arith}
use Rattle.std.proofs.lemmas.Bool.{false≢true}
use Rattle.std.proofs.lemmas.Option.{slice_get_within}
use Rattle.naga_oil_form.specs.ItemForm.{initialiser}
use Rattle.naga_oil_ir.specs.Rows.{expression_row}
use Rattle.naga_oil_ir.specs.declared.names.ItemPlace.{ItemPlace}
use Rattle.naga_oil_ir.specs.declared.expression.Expression.{Expression}
use Rattle.naga_oil_ir.specs.declared.span.Span.{Span}
use Rattle.naga_oil_form.proofs.FormLemmas.{at_place, at_more_place}
use Rattle.naga_oil_form.proofs.form_items.stand_after.Goals as goal

pub returns-then-not-initialisers_are_before : goal.returns-then-not-initialisers_are_before
returns-then-not-initialisers_are_before c =
    let Q : List (Option ItemPlace) → Type 0 = λ names. All (λ o. IfSome (initialiser c.args.of.now o) (λ i. i < c.loop-place.place)) names in
    let at = at_place c.args.items.now c.loop-place.place c.index-items-place.result (omega arith) c.index-items-place.is in
    (λ h. absurd (false≢true h), λ a. sym c.if-not-initialisers_are_before.true ∙ c.initialisers_are_before.ensures.1 (subst Q (sym (c.deref.ensures.value ∙ c.in_ok-names.ensures)) (a c.loop-place.place c.index-items-place.result at)))

pub loop-place-preserved : goal.loop-place-preserved
loop-place-preserved c =
    let P : ℕ → Expression × Span → Type 0 = λ k e. All (λ o. IfSome (initialiser c.args.of.now o) (λ i. i < k)) (expression_row e.0).names in
    let Q : List (Option ItemPlace) → Type 0 = λ names. All (λ o. IfSome (initialiser c.args.of.now o) (λ i. i < c.loop-place.place)) names in
    at_more_place P c.args.items.now c.loop-place.place c.index-items-place.result (omega arith) c.index-items-place.is (subst Q (c.deref.ensures.value ∙ c.in_ok-names.ensures) (c.initialisers_are_before.ensures.0 c.if-not-initialisers_are_before.false)) c.loop-place.invariant

pub returns : goal.returns
returns c =
    (λ h k e at. let within = slice_get_within c.args.items.now k e at in c.loop-place.invariant k e (omega arith) at, λ a. refl)
