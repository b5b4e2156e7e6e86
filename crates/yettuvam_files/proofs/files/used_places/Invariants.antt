use Rattle.std.proofs.Common.{◌≡◌, ◌++◌, length, map}
use Rattle.naga_oil_imports.specs.Uses.{import_of}
use Rattle.yettuvam_files.specs.Files.{places_of, used_places}
use Rattle.yettuvam_files.proofs.files.used_places.Given as goal

abbrev pub invariant-loop-rest : goal.invariant-loop-rest
invariant-loop-rest l =
    used_places (places_of l.places) (map import_of l.imports)
    ≡ l.used.items ++ used_places (places_of l.places) (map import_of l.rest)

abbrev pub decreases-loop-rest : goal.decreases-loop-rest
decreases-loop-rest l = length l.rest
