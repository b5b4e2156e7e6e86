use Rattle.std.proofs.Common.{◌≡◌, ◌+◌, eqb, cond, drop, Some, true, false, refl, sym, ap, ◌∙◌, rules, arith}
use Rattle.std.proofs.lemmas.List.{drop_all}
use Rattle.naga_oil_registry.specs.Registered.{definition_of}
use Rattle.naga_oil_registry.specs.Registry.{module_indexed}
use Rattle.naga_oil_registry.proofs.RegistryLemmas.{opened_at}
use Rattle.naga_oil_registry.proofs.registry.Registry.at_index.Goals as goal

pub loop-place-init : goal.loop-place-init
loop-place-init c = record { in_range = omega arith; same = refl }

pub returns-then-definition-index : goal.returns-then-definition-index
returns-then-definition-index c =
    let d = definition_of c.at-definition.result.now in
    let found : eqb d.index c.args.index ≡ true = search rules in
    sym (ap (λ b. cond b (Some d) (module_indexed c.args.index (drop (c.loop-place.place + 1) c.args.self.now))) found) ∙ sym (ap (module_indexed c.args.index) (opened_at c.args.self.now c.loop-place.place d c.at-definition.ensures)) ∙ c.loop-place.invariant.same

pub loop-place-smaller : goal.loop-place-smaller
loop-place-smaller c = omega (arith, c.len.ensures)

pub loop-place-preserved : goal.loop-place-preserved
loop-place-preserved c =
    let d = definition_of c.at-definition.result.now in
    let other : eqb d.index c.args.index ≡ false = search rules in
    record {
      in_range = omega (arith, c.len.ensures);
      same = sym (ap (module_indexed c.args.index) (opened_at c.args.self.now c.loop-place.place d c.at-definition.ensures) ∙ ap (λ b. cond b (Some d) (module_indexed c.args.index (drop (c.loop-place.place + 1) c.args.self.now))) other) ∙ c.loop-place.invariant.same;
    }

pub returns : goal.returns
returns c = ap (module_indexed c.args.index) (sym (drop_all c.loop-place.place c.args.self.now (omega (arith, c.len.ensures)))) ∙ c.loop-place.invariant.same
