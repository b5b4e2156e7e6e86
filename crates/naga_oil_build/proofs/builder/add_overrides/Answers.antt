use Rattle.std.proofs.Common.{◌≡◌, ◌∷◌, sym, ap, ◌∙◌}
use Rattle.std.specs.String.{string_bytes}
use Rattle.std.proofs.lemmas.Map.Iter.{rest_more}
use Rattle.naga_oil_words.specs.Texts.{texts}
use Rattle.naga_oil_build.specs.Overriding.{overriding_of, overridden_by, with_overriding}
use Rattle.naga_oil_build.proofs.OverridingLemmas.{over}
use Rattle.naga_oil_build.proofs.builder.add_overrides.Goals as goal

pub loop-base-preserved : goal.loop-base-preserved
loop-base-preserved c =
    let step : c.loop-base.base-iterator ≡ (c.in-Some.base.now, c.in-Some.names.now) ∷ c.next.new.self = rest_more (λ x. (x.0.now, x.1.now)) _ _ _ _ c.in-Some.is c.next.ensures.steps in
    let added : overriding_of c.add_overriding.new.all ≡ overridden_by (overriding_of c.loop-base.all) (string_bytes c.in-Some.base.now) (texts c.in-Some.names.now.items) =
    c.in_ok-add_overriding.ensures ∙ ap (λ b. overridden_by (overriding_of c.loop-base.all) b (texts c.deref.result.now)) c.as_str.ensures.value ∙ ap (λ ns. overridden_by (overriding_of c.loop-base.all) (string_bytes c.in-Some.base.now) (texts ns)) c.deref.ensures.value in
    ap (λ all. with_overriding all (over c.next.new.self)) added ∙ ap (λ es. with_overriding (overriding_of c.loop-base.all) (over es)) (sym step) ∙ c.loop-base.invariant
