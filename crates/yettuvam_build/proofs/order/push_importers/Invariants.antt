use Rattle.std.proofs.Common.{◌≡◌, ◌++◌, length, map, string_bytes}
use Rattle.std.specs.List.{flat_map}
use Rattle.yettuvam_build.specs.Files.{file_of}
use Rattle.yettuvam_build.specs.Order.{importer}
use Rattle.yettuvam_build.proofs.order.push_importers.Given as goal

abbrev pub invariant-loop-rest : goal.invariant-loop-rest
invariant-loop-rest l =
    string_bytes l.fn.report ++ flat_map (importer (map file_of l.files)) l.places
    ≡ string_bytes l.report ++ flat_map (importer (map file_of l.files)) l.rest

abbrev pub decreases-loop-rest : goal.decreases-loop-rest
decreases-loop-rest l = length l.rest
