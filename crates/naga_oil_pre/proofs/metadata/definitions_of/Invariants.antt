use Rattle.std.proofs.Common.{◌≡◌, map, take}
use Rattle.naga_oil_imports.specs.Uses.{import_of, use_of}
use Rattle.naga_oil_pre.proofs.metadata.definitions_of.Given as goal

abbrev pub invariant-loop-used : goal.invariant-loop-used
invariant-loop-used l = map import_of l.definitions.items ≡ map (λ used. (use_of used).import) (take l.used-index l.imports)
