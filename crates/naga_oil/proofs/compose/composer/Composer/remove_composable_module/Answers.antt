use Rattle.std.proofs.Common.{◌≡◌, ◌∙◌, List, sym, subst, refl}
use Rattle.std.specs.BTreeSet.{contains_text}
use Rattle.naga_oil_registry.specs.Registered.{Registered}
use Rattle.naga_oil_registry.specs.Registry.{reaches}
use Rattle.naga_oil_registry.proofs.RemovedLemmas.{after_removal, removed-unknown}
use Rattle.naga_oil_build.specs.BuildView.{settings_with}
use Rattle.naga_oil.specs.Store.{Kept, forget}
use Rattle.naga_oil.specs.StoreLaw.{IsStore}
use Rattle.naga_oil.specs.StoreView.{kept_of}
use Rattle.naga_oil.proofs.ForgetLemmas.{forget_same, forget_unknown}
use Rattle.naga_oil.proofs.StoreForgetLemmas.{forget_law}
use Rattle.naga_oil.proofs.compose.composer.Composer.remove_composable_module.Goals as goal

pub returns-then-not-contains_module : goal.returns-then-not-contains_module
returns-then-not-contains_module g c =
    let old = c.args.self.now in
    let name = c.args.module_name.now in
    let stays = removed-unknown name old.registry (sym (c.if-not-contains_module.ensures)) in
    let left = forget_unknown old.registry name (sym (c.if-not-contains_module.ensures)) old.kept in
    record { done = λ i. record old { registry = sym stays i; kept = sym left i }; refused = tt; unknown = λ _. refl }

pub invariant_of-self-2 : goal.invariant_of-self-2
invariant_of-self-2 g c =
    let inside = c.self.inside in
    let name = c.args.module_name.now in
    let ds = inside.modules in
    let s = settings_with g.B.Backend.front inside.settings in
    let stays : Kept = forget (λ other. reaches ds other name) (kept_of inside.store) in
    let left : kept_of c.forget.new.store ≡ stays = c.forget.ensures ∙ forget_same (contains_text c.in_ok-gone.gone) (λ other. reaches ds other name) c.in_ok-gone.ensures.gone (kept_of inside.store) in (
      after_removal c.remove.result name ds c.remove.new.self c.remove.ensures.ok c.remove.ensures.err c.self.invariant.0,
      subst (λ (k : Kept). IsStore s c.remove.new.self k) (sym left) (subst (λ (es : List Registered). IsStore s es stays) (sym c.in_ok-gone.ensures.ok) (forget_law.removal s ds name (kept_of inside.store) c.self.invariant.0 c.self.invariant.1)),
    )
