use Rattle.std.proofs.Common.{◌≡◌, ◌∷◌, ℕ, List, Bool, find, sym, ap, ◌∙◌, Some}
use Rattle.std.specs.Prelude.{◌==◌}
use Rattle.std.specs.Arc.{arc_value}
use Rattle.std.specs.String.{string_bytes}
use Rattle.std.proofs.lemmas.Bool.{eq-eqb, ne_eqb}
use Rattle.std.proofs.lemmas.Map.Iter.{rest_more}
use Rattle.naga_oil_link.specs.BuiltModule.{BuiltModule, built_of}
use Rattle.naga_oil_link.specs.declared.module.ComposableModule.{ComposableModule}
use Rattle.naga_oil.proofs.ValidatedLemmas.{builds_in, find_first, find_later}
use Rattle.naga_oil.proofs.compose.make.build_at.Goals as goal

pub returns-then-index_of-index : goal.returns-then-index_of-index
returns-then-index_of-index c =
    let p : List ℕ × BuiltModule → Bool = λ b. b.1.index == c.args.index in
    let e : List ℕ × BuiltModule = (string_bytes c.in-Some.name.now, built_of (arc_value c.in-Some.build.now)) in
    let step : c.loop-name.name-iterator ≡ (c.in-Some.name.now, c.in-Some.build.now) ∷ c.next.new.self = rest_more (λ x. (x.0.now, x.1.now)) _ _ _ _ c.in-Some.is c.next.ensures.steps in
    (λ i. Some (c.as_str.ensures.value i, built_of (c.deref-then-index_of-index.ensures i))) ∙ sym (find_first p e (builds_in c.next.new.self) (ap (λ i. i == c.args.index) (sym (c.index_of.ensures ∙ ap (λ (b : ComposableModule). b.index) c.deref.ensures)) ∙ eq-eqb _ _ c.if-index_of-index.true)) ∙ ap (λ es. find p (builds_in es)) (sym step) ∙ c.loop-name.invariant

pub loop-name-preserved : goal.loop-name-preserved
loop-name-preserved c =
    let p : List ℕ × BuiltModule → Bool = λ b. b.1.index == c.args.index in
    let e : List ℕ × BuiltModule = (string_bytes c.in-Some.name.now, built_of (arc_value c.in-Some.build.now)) in
    let step : c.loop-name.name-iterator ≡ (c.in-Some.name.now, c.in-Some.build.now) ∷ c.next.new.self = rest_more (λ x. (x.0.now, x.1.now)) _ _ _ _ c.in-Some.is c.next.ensures.steps in
    sym (find_later p e (builds_in c.next.new.self) (ap (λ i. i == c.args.index) (sym (c.index_of.ensures ∙ ap (λ (b : ComposableModule). b.index) c.deref.ensures)) ∙ ne_eqb _ _ c.if-index_of-index.false)) ∙ ap (λ es. find p (builds_in es)) (sym step) ∙ c.loop-name.invariant
