use Rattle.std.proofs.Common.{◌≡◌, ◌∷◌, sym, ap, ◌∙◌, rules}
use Rattle.std.specs.String.{string_bytes}
use Rattle.std.proofs.lemmas.Map.Iter.{rest_more}
use Rattle.naga_oil_registry.specs.Registered.{defs_of}
use Rattle.naga_oil_registry.specs.Merged.{with_def, overwritten}
use Rattle.naga_oil_registry.proofs.MergedLemmas.{named, named-insert}
use Rattle.naga_oil_registry.proofs.merge.overwrite.Goals as goal

pub loop-name-preserved : goal.loop-name-preserved
loop-name-preserved c =
    let step : c.loop-name.name-iterator ≡ (c.in-Some.name.now, c.in-Some.value.now) ∷ c.next.new.self = rest_more (λ x. (x.0.now, x.1.now)) _ _ _ _ c.in-Some.is c.next.ensures.steps in
    let same : string_bytes c.in_ok-clone.field-0 ≡ string_bytes c.in-Some.name.now = search rules in
    let more : defs_of c.insert.new.self ≡ with_def (defs_of c.loop-name.defs) (string_bytes c.in-Some.name.now, c.in-Some.value.now) = ap named c.in_ok-insert.ensures.entries ∙ named-insert c.loop-name.defs.entries c.in_ok-clone.field-0 c.in-Some.value.now ∙ ap (λ n. with_def (defs_of c.loop-name.defs) (n, c.in-Some.value.now)) same in
    ap (λ ds. overwritten ds (named c.next.new.self)) more ∙ ap (λ es. overwritten (defs_of c.loop-name.defs) (named es)) (sym step) ∙ c.loop-name.invariant
