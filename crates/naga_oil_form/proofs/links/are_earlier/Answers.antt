use Rattle.std.proofs.Common.{◌∙◌, sym, subst, List, ℕ, ◌<◌, All, refl, arith}
use Rattle.std.proofs.lemmas.Bool.{false≢true}
use Rattle.naga_oil_form.specs.Links.{lists}
use Rattle.naga_oil_form.proofs.LinkLemmas.{linked-at, earlier_push, earlier_all}
use Rattle.naga_oil_form.proofs.links.are_earlier.Goals as goal

pub returns-then-not-are_below : goal.returns-then-not-are_below
returns-then-not-are_below c =
    let Q : List ℕ → Type 0 = All (λ x. x < c.loop-place.place) in
    let here = linked-at c.args.links.now c.loop-place.place c.index-links-place.result (omega arith) c.index-links-place.is in
    (λ h. absurd (false≢true h), λ a. sym c.if-not-are_below.true ∙ c.are_below.ensures.1 (subst Q (here ∙ sym c.deref.ensures.value) (a c.loop-place.place)))

pub loop-place-preserved : goal.loop-place-preserved
loop-place-preserved c =
    let Q : List ℕ → Type 0 = All (λ x. x < c.loop-place.place) in
    let here = linked-at c.args.links.now c.loop-place.place c.index-links-place.result (omega arith) c.index-links-place.is in
    earlier_push (lists c.args.links.now) c.loop-place.place c.loop-place.invariant (subst Q (c.deref.ensures.value ∙ sym here) (c.are_below.ensures.0 c.if-not-are_below.false))

pub returns : goal.returns
returns c = (λ h. earlier_all c.args.links.now c.loop-place.place c.loop-place.invariant (omega arith), λ a. refl)
