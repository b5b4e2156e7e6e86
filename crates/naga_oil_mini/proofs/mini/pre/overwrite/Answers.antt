use Rattle.std.proofs.Common.{◌≡◌, ◌∷◌, sym, ap, ◌∙◌}
use Rattle.std.specs.BTreeMap.{get_by_text}
use Rattle.std.proofs.lemmas.Map.Iter.{rest_more, rest_all}
use Rattle.naga_oil_mini.proofs.OverwriteLemmas.{defined_in_turn, overwritten_in_turn}
use Rattle.naga_oil_mini.proofs.mini.pre.overwrite.Goals as goal

pub loop-name-preserved : goal.loop-name-preserved
loop-name-preserved c =
    let step : c.loop-name.name-iterator ≡ (c.in-Some.name, c.in-Some.value) ∷ c.next.new.self = rest_more (λ x. x) _ _ _ _ c.in-Some.is c.next.ensures.steps in
    ap (λ defs. defined_in_turn defs c.next.new.self) c.in_ok-set_definition.ensures ∙ ap (λ es. defined_in_turn (get_by_text c.loop-name.definitions) es) (sym step) ∙ c.loop-name.invariant

pub returns : goal.returns
returns c =
    ap (λ es. defined_in_turn (get_by_text c.loop-name.definitions) es) (sym (rest_all (λ x. x) _ _ _ c.in-None.is c.next.ensures.steps))
    ∙ c.loop-name.invariant ∙ overwritten_in_turn (get_by_text c.args.definitions.now) c.args.own c.len-names.ensures.ordered
