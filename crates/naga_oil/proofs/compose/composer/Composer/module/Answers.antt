use Rattle.std.proofs.Common.{◌≡◌, option_map, subst}
use Rattle.naga_oil_registry.specs.Registered.{definition_of}
use Rattle.naga_oil_registry.specs.Registry.{AreReachedNames, module_named}
use Rattle.naga_oil.specs.State.{State}
use Rattle.naga_oil_registry.proofs.EffectiveLemmas.{are_reached}
use Rattle.naga_oil.proofs.compose.composer.Composer.module.Goals as goal

pub returns-clause-effective : goal.returns-clause-effective
returns-clause-effective g c = subst (λ (v : State _). AreReachedNames v.registry) c.self.view_is (are_reached _ c.self.invariant.0)

pub returns-clause-value : goal.returns-clause-value
returns-clause-value g c = subst (λ (v : State _). option_map (λ d. definition_of d.now) c.get.result ≡ module_named c.args.module_name.now v.registry) c.self.view_is c.get.ensures
