use Rattle.std.proofs.Common.{◌≡◌, ◌-◌, List, IfNone, false, sym, subst, ap, ◌∙◌, bytes_eq}
use Rattle.std.specs.Map.{values_of}
use Rattle.naga_oil_registry.specs.Registered.{Registered}
use Rattle.naga_oil_registry.specs.Registry.{registered}
use Rattle.naga_oil_registry.specs.RegistryView.{newest_first, IsOnly}
use Rattle.naga_oil_registry.proofs.KeptLemmas.{unregistered, only_named}
use Rattle.naga_oil_registry.proofs.registry.Registry.place.Goals as goal

pub returns-in_err-older-clause-none : goal.returns-in_err-older-clause-none
returns-in_err-older-clause-none c =
    let none : registered c.args.name.now c.args.self.now ≡ false = ap (registered c.args.name.now) (sym c.self.view_is) ∙ unregistered c.args.name.now c.self.inside.modules.entries c.self.invariant.under (sym c.in_err-older.ensures.found) in
    subst (λ r. IfNone r (registered c.args.name.now c.args.self.now ≡ false)) (sym c.from_residual.ensures) none

pub returns-clause-some : goal.returns-clause-some
returns-clause-some c =
    let es = c.self.inside.modules.entries in
    let named : Registered → _ = λ d. bytes_eq d.name c.args.name.now in
    let only = only_named c.args.name.now es c.self.invariant.under c.len.ensures.unique c.in_ok-older.older (sym c.in_ok-older.ensures.index) in
    subst (λ (ds : List Registered). IsOnly named ds (c.len.result - 1 - c.in_ok-older.older)) c.self.view_is
    (subst (λ n. IsOnly named (newest_first (values_of es)) (n - 1 - c.in_ok-older.older)) (sym c.len.ensures.len) only)
