use Rattle.std.proofs.Common.{◌≡◌, ◌++◌, map, take}
use Rattle.std.specs.List.{flat_map}
use Rattle.naga_oil_imports.specs.Uses.{use_of}
use Rattle.naga_oil_mini.specs.Listing.{import_line}
use Rattle.naga_oil_mini.proofs.mini.listing.push_imports.Given as goal

abbrev pub invariant-loop-import : goal.invariant-loop-import
invariant-loop-import l = l.out.items ≡ l.fn.out.items ++ flat_map import_line (map (λ u. u.import) (map use_of (take l.import-index l.imports)))
