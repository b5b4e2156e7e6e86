use Rattle.std.proofs.Common.{◌≡◌, length}
use Rattle.naga_oil_registry.specs.Registered.{defs_of}
use Rattle.yettuvam_files.specs.Files.{texts_of}
use Rattle.yettuvam_build.specs.Defined.{defined_by, definitions_of}
use Rattle.yettuvam_build.proofs.definitions.given.Given as goal

abbrev pub invariant-loop-rest : goal.invariant-loop-rest
invariant-loop-rest l = definitions_of (texts_of l.words) ≡ defined_by (defs_of l.definitions) (texts_of l.rest)

abbrev pub decreases-loop-rest : goal.decreases-loop-rest
decreases-loop-rest l = length l.rest
