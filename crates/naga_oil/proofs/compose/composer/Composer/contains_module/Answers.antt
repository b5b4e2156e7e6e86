use Rattle.std.proofs.Common.{◌≡◌, is_some, ◌∙◌, rules}
use Rattle.naga_oil_registry.specs.Registry.{module_named}
use Rattle.naga_oil_registry.proofs.AddedLemmas.{named-registered}
use Rattle.naga_oil.proofs.compose.composer.Composer.contains_module.Goals as goal

pub returns : goal.returns
returns g c =
    let some : c.is_some.result ≡ is_some (module_named c.args.module_name.now c.args.self.now.registry) = search rules in
    some ∙ named-registered c.args.module_name.now c.args.self.now.registry
