use Rattle.std.proofs.Common.{◌≡◌, ◌++◌, length, map}
use Rattle.yettuvam_files.specs.Files.{texts_of}
use Rattle.yettuvam_build.specs.Files.{file_of}
use Rattle.yettuvam_build.proofs.order.module_texts.Given as goal

abbrev pub invariant-loop-rest : goal.invariant-loop-rest
invariant-loop-rest l =
    map (λ f. f.text) (map file_of l.files) ≡ texts_of l.texts.items ++ map (λ f. f.text) (map file_of l.rest)

abbrev pub decreases-loop-rest : goal.decreases-loop-rest
decreases-loop-rest l = length l.rest
