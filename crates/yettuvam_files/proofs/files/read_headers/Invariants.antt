use Rattle.std.proofs.Common.{◌≡◌, ◌++◌, length, map}
use Rattle.yettuvam_files.specs.Files.{header, headers_of, texts_of}
use Rattle.yettuvam_files.proofs.files.read_headers.Given as goal

abbrev pub invariant-loop-rest : goal.invariant-loop-rest
invariant-loop-rest l =
    map header (texts_of l.texts) ≡ headers_of l.headers.items ++ map header (texts_of l.rest)

abbrev pub decreases-loop-rest : goal.decreases-loop-rest
decreases-loop-rest l = length l.rest
