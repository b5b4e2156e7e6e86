use Rattle.std.proofs.Common.{◌≡◌, ◌∷◌, length, map}
use Rattle.yettuvam_build.specs.Files.{file_of}
use Rattle.yettuvam_build.specs.Reported.{file_text}
use Rattle.yettuvam_build.proofs.make.file_text.Given as goal

abbrev pub invariant-loop-rest : goal.invariant-loop-rest
invariant-loop-rest l = file_text l.path (map file_of l.rest) ≡ file_text l.path (file_of l.top ∷ map file_of l.others)

abbrev pub decreases-loop-rest : goal.decreases-loop-rest
decreases-loop-rest l = length l.rest
