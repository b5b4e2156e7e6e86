use Rattle.std.proofs.Common.{◌≡◌, length}
use Rattle.yettuvam_files.specs.Files.{add_headers, headers_of, places_of}
use Rattle.yettuvam_files.proofs.files.add_headers.Given as goal

abbrev pub invariant-loop-rest : goal.invariant-loop-rest
invariant-loop-rest l =
    add_headers l.count (places_of l.fn.places) (headers_of l.headers)
    ≡ add_headers l.count (places_of l.places) (headers_of l.rest)

abbrev pub decreases-loop-rest : goal.decreases-loop-rest
decreases-loop-rest l = length l.rest
