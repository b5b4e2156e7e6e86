use Rattle.std.proofs.Common.{◌≡◌, map, take}
use Rattle.naga_oil_imports.specs.Declarations.{declared_of}
use Rattle.naga_oil_imports.specs.Leaves.{with_leaves}
use Rattle.naga_oil_imports.specs.ImportView.{leaf_of}
use Rattle.naga_oil_imports.proofs.parse_imports.push_leaves.Given as goal

abbrev pub invariant-loop-i : goal.invariant-loop-i
invariant-loop-i l = declared_of l.declared ≡ with_leaves (declared_of l.fn.declared) (map leaf_of (take l.i l.leaves))
