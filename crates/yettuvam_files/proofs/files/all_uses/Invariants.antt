use Rattle.std.proofs.Common.{◌≡◌, ◌++◌, length}
use Rattle.yettuvam_files.specs.Files.{all_uses, headers_of, places_of}
use Rattle.yettuvam_files.specs.Rounds.{uses_view}
use Rattle.yettuvam_files.proofs.files.all_uses.Given as goal

abbrev pub invariant-loop-rest : goal.invariant-loop-rest
invariant-loop-rest l =
    all_uses (places_of l.places) (headers_of l.headers)
    ≡ uses_view l.uses.items ++ all_uses (places_of l.places) (headers_of l.rest)

abbrev pub decreases-loop-rest : goal.decreases-loop-rest
decreases-loop-rest l = length l.rest
