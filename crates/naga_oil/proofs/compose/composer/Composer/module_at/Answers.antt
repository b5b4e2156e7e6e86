use Rattle.std.proofs.Common.{◌≡◌, option_map, subst}
use Rattle.naga_oil_registry.specs.Registered.{definition_of}
use Rattle.naga_oil_registry.specs.Registry.{module_indexed}
use Rattle.naga_oil.specs.State.{State}
use Rattle.naga_oil.proofs.compose.composer.Composer.module_at.Goals as goal

pub returns : goal.returns
returns g c = subst (λ (v : State _). option_map (λ d. definition_of d.now) c.at_index.result ≡ module_indexed c.args.index v.registry) c.self.view_is c.at_index.ensures
