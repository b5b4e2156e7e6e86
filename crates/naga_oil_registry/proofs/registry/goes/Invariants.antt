use Rattle.std.proofs.Common.{◌≡◌, map, drop}
use Rattle.std.specs.BTreeSet.{contains_text}
use Rattle.std.specs.List.{list_any}
use Rattle.naga_oil_imports.specs.Uses.{use_of}
use Rattle.naga_oil_registry.specs.Registered.{definition_of}
use Rattle.naga_oil_registry.proofs.registry.goes.Given as goal

abbrev pub invariant-loop-import : goal.invariant-loop-import
invariant-loop-import l = list_any (λ u. contains_text l.gone u.import.import) (map use_of (drop l.import-index l.definition.all_imports.items)) ≡ list_any (λ u. contains_text l.gone u.import.import) (definition_of l.definition).imports
