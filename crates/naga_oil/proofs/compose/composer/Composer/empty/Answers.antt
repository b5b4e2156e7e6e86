use Rattle.std.proofs.Common.{rules, ◌≡◌, List, [], sym, subst}
use Rattle.naga_oil_registry.specs.Registered.{Registered}
use Rattle.naga_oil_registry.specs.Registry.{IsRegistry}
use Rattle.naga_oil_build.specs.BuildView.{settings_with}
use Rattle.naga_oil.specs.Store.{Kept}
use Rattle.naga_oil.specs.StoreLaw.{IsStore}
use Rattle.naga_oil.specs.StoreView.{kept_of}
use Rattle.naga_oil.proofs.StoreLawLemmas.{store_nothing}
use Rattle.naga_oil.proofs.compose.composer.Composer.empty.Goals as goal

pub invariant_of-result : goal.invariant_of-result
invariant_of-result g c =
    let s = settings_with g.B.Backend.front c.args.settings in
    let kept : kept_of c.new-2.result ≡ [] = search rules in
    subst (λ (ds : List Registered). IsRegistry ds × IsStore s ds (kept_of c.new-2.result)) (sym c.new.ensures) (tt, subst (λ (k : Kept). IsStore s [] k) (sym kept) (store_nothing s []))
