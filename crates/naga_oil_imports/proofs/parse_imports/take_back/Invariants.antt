use Rattle.std.proofs.Common.{◌≡◌, length, map, take}
use Rattle.naga_oil_imports.specs.Declarations.{Declared, declared_of}
use Rattle.naga_oil_imports.specs.Leaves.{with_leaves}
use Rattle.naga_oil_imports.specs.ImportView.{leaf_of}
use Rattle.naga_oil_imports.proofs.parse_imports.take_back.Given as goal

abbrev pub invariant-loop-last : goal.invariant-loop-last
invariant-loop-last l = (before : Declared) → length before ≡ l.len → declared_of l.fn.declared ≡ with_leaves before (map leaf_of l.leaves)
    → take l.len (declared_of l.declared) ≡ take l.len (with_leaves before (map leaf_of l.rest))

abbrev pub decreases-loop-last : goal.decreases-loop-last
decreases-loop-last l = length l.rest
