use Rattle.std.proofs.Common.{◌≡◌, ◌∙◌, Some, ap, sym, option_map, option_copied, rules}
use Rattle.std.specs.Arc.{arc_value}
use Rattle.naga_oil_link.specs.BuiltModule.{built_of}
use Rattle.naga_oil.proofs.StoreCodeLemmas.{stored_found}
use Rattle.naga_oil.proofs.compose.store.kept_build.Goals as goal

pub returns-in_ok-clone-in-Some : goal.returns-in_ok-clone-in-Some
returns-in_ok-clone-in-Some c =
    let same : arc_value c.in_ok-clone-in-Some.field-0 ≡ arc_value c.in-Some.build.now = search rules in
    ap (λ v. Some (built_of v)) same
    ∙ ap (λ o. option_map (λ a. built_of (arc_value a)) (option_copied o)) (sym c.in-Some.is)
    ∙ ap (option_map (λ a. built_of (arc_value a))) c.get.ensures.value
    ∙ stored_found c.args.key.now c.args.store.now.entries

pub returns-in-None : goal.returns-in-None
returns-in-None c =
    ap (λ o. option_map (λ a. built_of (arc_value a)) (option_copied o)) (sym c.in-None.is)
    ∙ ap (option_map (λ a. built_of (arc_value a))) c.get.ensures.value
    ∙ stored_found c.args.key.now c.args.store.now.entries
