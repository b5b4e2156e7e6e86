use Rattle.std.proofs.Common.{◌≡◌, map, take}
use Rattle.yettuvam_build.specs.Files.{file_of}
use Rattle.yettuvam_c.specs.Built.{source_file}
use Rattle.yettuvam_c.proofs.build.files.Given as goal

abbrev pub invariant-loop-source : goal.invariant-loop-source
invariant-loop-source l = map file_of l.all.items ≡ map source_file (take l.source-index l.sources)
