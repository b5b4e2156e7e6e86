use Rattle.std.proofs.Common.{◌≡◌, ◌∙◌, ◌<◌, ◌⊎◌, true, Option, Some, None, IfSome, is_some, refl, sym, subst}
use Rattle.std.proofs.lemmas.Bool.{false≢true}
use Rattle.std.proofs.lemmas.List.Elements.{All-nil}
use Rattle.naga_oil_ir.specs.declared.names.ItemPlace.{ItemPlace}
use Rattle.naga_oil_derive.specs.Copying.{IsThere, WentSomewhere, goes_under, rank}
use Rattle.naga_oil_derive.specs.declared.copy.Waiting.{Waiting}
use Rattle.naga_oil_walk.proofs.OptionLemmas.{none_of}
use Rattle.naga_oil_derive.proofs.copy.Copying.awaited.Goals as goal

went_if : (o : Option ItemPlace) → is_some o ≡ true → (q : ItemPlace) × (o ≡ Some q)
went_if None e = absurd (false≢true e)
went_if (Some q) e = (q, refl)

pub returns-then-has_gone : goal.returns-then-has_gone
returns-then-has_gone c =
    let g = goes_under c.args.self.now.maps in
    subst (WentSomewhere g) (sym c.in-Some.is) (went_if (g c.in-Some.item) (sym c.has_gone.ensures ∙ c.if-has_gone.true))

pub returns : goal.returns
returns c =
    let source = c.args.source.now in
    let g = goes_under c.args.self.now.maps in
    let p = c.in-Some.item in
    (c.in-Some.is, record { there = subst (λ o. IfSome o (IsThere source)) c.in-Some.is c.requires; names = c.in_ok-names.ensures; nowhere = none_of (g p) c.has_gone.result c.has_gone.ensures c.if-has_gone.false; copied = All-nil (λ o. WentSomewhere g o ⊎ (o ≡ None)); lower = All-nil (λ (v : Waiting). rank source v.item < rank source p) }, refl)
