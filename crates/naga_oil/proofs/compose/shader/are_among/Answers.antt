use Rattle.std.proofs.Common.{◌≡◌, ◌∷◌, true, false, ◌&&◌, sym, ap, ◌∙◌}
use Rattle.std.proofs.lemmas.Map.Iter.{rest_more}
use Rattle.std.specs.String.{string_bytes}
use Rattle.naga_oil_registry.specs.Registered.{defs_of}
use Rattle.naga_oil.specs.Shader.{has_value, value_of, are_among}
use Rattle.naga_oil_registry.proofs.MergedLemmas.{named}
use Rattle.naga_oil.proofs.MergingLemmas.{has_same, value-texts, not_other, no_other}
use Rattle.naga_oil.proofs.compose.shader.are_among.Goals as goal

pub returns-then-ne : goal.returns-then-ne
returns-then-ne c =
    let others = defs_of c.args.others.now in
    let name = string_bytes c.in-Some.name.now in
    let step : c.loop-name.name-iterator ≡ (c.in-Some.name.now, c.in-Some.value.now) ∷ c.next.new.self = rest_more (λ x. (x.0.now, x.1.now)) _ _ _ _ c.in-Some.is c.next.ensures.steps in
    let found = c.get.ensures.value ∙ value-texts c.args.others.now.entries c.as_str.result.now ∙ ap (value_of others) c.as_str.ensures.value in
    let has : has_value c.in-Some.value.now (value_of others name) ≡ false = not_other _ _ (sym c.if-ne.true ∙ c.ne.ensures) (has_same c.get.result c.in-Some.value ∙ ap (has_value c.in-Some.value.now) found) in
    ap (λ b. b && are_among (named c.next.new.self) others) (sym has) ∙ ap (λ es. are_among (named es) others) (sym step) ∙ c.loop-name.invariant

pub loop-name-preserved : goal.loop-name-preserved
loop-name-preserved c =
    let others = defs_of c.args.others.now in
    let name = string_bytes c.in-Some.name.now in
    let step : c.loop-name.name-iterator ≡ (c.in-Some.name.now, c.in-Some.value.now) ∷ c.next.new.self = rest_more (λ x. (x.0.now, x.1.now)) _ _ _ _ c.in-Some.is c.next.ensures.steps in
    let found = c.get.ensures.value ∙ value-texts c.args.others.now.entries c.as_str.result.now ∙ ap (value_of others) c.as_str.ensures.value in
    let has : has_value c.in-Some.value.now (value_of others name) ≡ true = no_other _ _ (sym c.if-ne.false ∙ c.ne.ensures) (has_same c.get.result c.in-Some.value ∙ ap (has_value c.in-Some.value.now) found) in
    ap (λ b. b && are_among (named c.next.new.self) others) (sym has) ∙ ap (λ es. are_among (named es) others) (sym step) ∙ c.loop-name.invariant
