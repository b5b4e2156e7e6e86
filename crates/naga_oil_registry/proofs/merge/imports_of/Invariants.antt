use Rattle.std.proofs.Common.{◌≡◌, map, take}
use Rattle.naga_oil_imports.specs.Uses.{import_of, use_of}
use Rattle.naga_oil_registry.proofs.merge.imports_of.Given as goal

abbrev pub invariant-loop-import : goal.invariant-loop-import
invariant-loop-import l = map import_of l.imports.items ≡ map (λ u. (use_of u).import) (take l.import-index l.uses)
