use Rattle.std.proofs.Common.{◌≡◌, map, drop}
use Rattle.std.specs.BTreeSet.{contains_text}
use Rattle.naga_oil_imports.specs.Uses.{use_of}
use Rattle.naga_oil_registry.specs.Added.{imported_among}
use Rattle.naga_oil_registry.specs.Registered.{definition_of}
use Rattle.naga_oil_registry.specs.Registry.{standing}
use Rattle.naga_oil_registry.proofs.AddedLemmas.{with_found}
use Rattle.naga_oil_registry.proofs.adding.imported_modules.Given as goal

abbrev pub invariant-loop-import : goal.invariant-loop-import
invariant-loop-import l =
    with_found (map (λ d. definition_of d.now) l.imported.items) (imported_among (standing (contains_text l.gone) l.registry) (map use_of (drop l.import-index l.imports)))
    ≡ imported_among (standing (contains_text l.gone) l.registry) (map use_of l.imports)
