use Rattle.std.proofs.Common.{◌≡◌, length, map}
use Rattle.yettuvam_build.specs.Built.{with_places}
use Rattle.yettuvam_build.specs.BuiltView.{modules_of}
use Rattle.yettuvam_build.specs.Files.{file_of}
use Rattle.yettuvam_build.proofs.make.add_files.Given as goal

abbrev pub invariant-loop-rest : goal.invariant-loop-rest
invariant-loop-rest g l = record {
  added : with_places (map file_of l.files) (modules_of l.fn.composer) l.order ≡ with_places (map file_of l.files) (modules_of l.composer) l.rest;
  settings : l.composer.settings ≡ l.fn.composer.settings;
}

abbrev pub decreases-loop-rest : goal.decreases-loop-rest
decreases-loop-rest g l = length l.rest
