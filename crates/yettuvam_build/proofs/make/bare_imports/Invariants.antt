use Rattle.std.proofs.Common.{◌≡◌, ◌++◌, length, map}
use Rattle.naga_oil_imports.specs.Uses.{import_of}
use Rattle.yettuvam_files.specs.Files.{texts_of}
use Rattle.yettuvam_build.specs.Built.{bare_import}
use Rattle.yettuvam_build.proofs.make.bare_imports.Given as goal

abbrev pub invariant-loop-rest : goal.invariant-loop-rest
invariant-loop-rest l =
    map bare_import (texts_of l.names) ≡ map import_of l.imports.items ++ map bare_import (texts_of l.rest)

abbrev pub decreases-loop-rest : goal.decreases-loop-rest
decreases-loop-rest l = length l.rest
