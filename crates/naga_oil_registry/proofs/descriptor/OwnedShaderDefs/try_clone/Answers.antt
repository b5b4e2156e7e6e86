use Rattle.std.proofs.Common.{rules}
use Rattle.naga_oil_registry.proofs.MergedLemmas.{map-from_all_zip}
use Rattle.naga_oil_registry.proofs.descriptor.OwnedShaderDefs.try_clone.Goals as goal

pub returns : goal.returns
returns c = map-from_all_zip _ _ c.args.self.now.0.entries c.in_ok-clone.field-0.entries c.in_ok-clone.ensures.cases (λ x y r. search rules)
