use Rattle.std.proofs.Common.{◌≡◌, map, take}
use Rattle.naga_oil_imports.specs.Uses.{import_of}
use Rattle.naga_oil_registry.proofs.merge.clone_imports.Given as goal

abbrev pub invariant-loop-import : goal.invariant-loop-import
invariant-loop-import l = map import_of l.copy.items ≡ map import_of (take l.import-index l.imports)
