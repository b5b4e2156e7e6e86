use Rattle.std.proofs.Common.{◌≡◌, ◌∷◌, ap, ◌∙◌, sym, ℕ, List, Ok, String, Global}
use Rattle.std.specs.BTreeSet.{BTreeSet, contains_text}
use Rattle.naga_oil_registry.specs.Added.{new_definition, shown_by}
use Rattle.naga_oil_registry.specs.Registered.{definition_of}
use Rattle.naga_oil_registry.specs.DescribedView.{described_of}
use Rattle.naga_oil_registry.specs.Descriptor.{module_source}
use Rattle.naga_oil_registry.specs.Registry.{reaches, registered, removed, standing}
use Rattle.naga_oil_registry.proofs.AddedLemmas.{entered-registry, is_entered}
use Rattle.naga_oil_registry.proofs.NewDefinitionLemmas.{fails-through, gives-refused}
use Rattle.naga_oil_registry.proofs.RemovedLemmas.{standing-same}
use Rattle.naga_oil_registry.proofs.adding.register.Goals as goal

pub returns-in_err-definition-clause-reply : goal.returns-in_err-definition-clause-reply
returns-in_err-definition-clause-reply c =
    let ms = c.args.registry.now in
    let m = module_source c.args.desc in
    let d = described_of c.args.described in
    let leaves = contains_text c.in_ok-gone.gone in
    let gone : (other : List ℕ) → leaves other ≡ reaches ms other d.name = λ other. c.in_ok-gone.ensures other ∙ ap (reaches ms other) c.as_str.ensures.value in
    let stays : standing leaves c.free_index.new.self ≡ removed d.name ms = ap (standing leaves) c.free_index.ensures.same ∙ standing-same leaves (λ other. reaches ms other d.name) gone ms in
    gives-refused (λ (r : ℕ × BTreeSet (String Global)). r.0) c.from_residual-in_err-definition.result c.in_err-definition.field-0.0 (shown_by (λ d. d.index) (new_definition (removed d.name ms) m d)) c.from_residual-in_err-definition.ensures.1
    (fails-through c.in_err-definition.field-0.0 _ (shown_by (λ d. d.index) (new_definition (removed d.name ms) m d)) c.in_err-definition.ensures
    (λ f e. ap (shown_by (λ d. d.index)) (ap (λ ds. new_definition ds m d) (sym stays) ∙ e)))

pub enter-requires : goal.enter-requires
enter-requires c =
    let ms = c.args.registry.now in
    let m = module_source c.args.desc in
    let d = described_of c.args.described in
    let leaves = contains_text c.in_ok-gone.gone in
    let gone : (other : List ℕ) → leaves other ≡ reaches ms other d.name = λ other. c.in_ok-gone.ensures other ∙ ap (reaches ms other) c.as_str.ensures.value in
    let new = definition_of c.in_ok-definition.definition in
    let stays : standing leaves c.free_index.new.self ≡ removed d.name ms = ap (standing leaves) c.free_index.ensures.same ∙ standing-same leaves (λ other. reaches ms other d.name) gone ms in
    let added : new_definition (removed d.name ms) m d ≡ Ok new = ap (λ ds. new_definition ds m d) (sym stays) ∙ c.in_ok-definition.ensures in
    let follows = (entered-registry ms m d new added c.requires.registry).1.0 in
    ap (registered new.name) stays ∙ follows.name

pub returns-clause-reply : goal.returns-clause-reply
returns-clause-reply c =
    let ms = c.args.registry.now in
    let m = module_source c.args.desc in
    let d = described_of c.args.described in
    let leaves = contains_text c.in_ok-gone.gone in
    let gone : (other : List ℕ) → leaves other ≡ reaches ms other d.name = λ other. c.in_ok-gone.ensures other ∙ ap (reaches ms other) c.as_str.ensures.value in
    let new = definition_of c.in_ok-definition.definition in
    let same = c.free_index.ensures.same in
    let entered = is_entered ms c.enter.new.self (standing leaves c.free_index.new.self) leaves m d new gone (ap (standing leaves) same) c.in_ok-definition.ensures (c.in_ok-enter.ensures.ok ∙ ap (λ ds. new ∷ standing leaves ds) same) c.requires.registry in
    ap (shown_by (λ d. d.index)) entered.added

pub returns-clause-registry : goal.returns-clause-registry
returns-clause-registry c =
    let ms = c.args.registry.now in
    let m = module_source c.args.desc in
    let d = described_of c.args.described in
    let leaves = contains_text c.in_ok-gone.gone in
    let gone : (other : List ℕ) → leaves other ≡ reaches ms other d.name = λ other. c.in_ok-gone.ensures other ∙ ap (reaches ms other) c.as_str.ensures.value in
    let new = definition_of c.in_ok-definition.definition in
    let same = c.free_index.ensures.same in
    let entered = is_entered ms c.enter.new.self (standing leaves c.free_index.new.self) leaves m d new gone (ap (standing leaves) same) c.in_ok-definition.ensures (c.in_ok-enter.ensures.ok ∙ ap (λ ds. new ∷ standing leaves ds) same) c.requires.registry in
    (new, entered.added, entered.items)
