use Rattle.std.proofs.Common.{◌≡◌, ◌++◌, map, take}
use Rattle.naga_oil_imports.specs.Uses.{use_of, import_of}
use Rattle.naga_oil_registry.specs.Merged.{used_at_start}
use Rattle.naga_oil_registry.proofs.merge.push_additional.Given as goal

abbrev pub invariant-loop-import : goal.invariant-loop-import
invariant-loop-import l = map use_of l.imports.items ≡ map use_of l.fn.imports.items ++ map (λ i. used_at_start (import_of i)) (take l.import-index l.additional)
