use Rattle.std.proofs.Common.{◌≡◌, map, take}
use Rattle.naga_oil_imports.specs.Uses.{import_of}
use Rattle.naga_oil_mini.specs.Made.{bare_import}
use Rattle.naga_oil_mini_symbols.specs.NameTable.{texts_of}
use Rattle.naga_oil_mini.proofs.mini.make.bare_imports.Given as goal

abbrev pub invariant-loop-name : goal.invariant-loop-name
invariant-loop-name l = map import_of l.imports.items ≡ map bare_import (texts_of (take l.name-index l.names))
