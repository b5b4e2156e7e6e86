use Rattle.std.proofs.Common.{◌≡◌, map, drop}
use Rattle.naga_oil_mini.specs.Made.{with_files}
use Rattle.naga_oil_mini.specs.MadeView.{file_of, modules_of}
use Rattle.naga_oil_mini.proofs.mini.make.add_files.Given as goal

abbrev pub invariant-loop-file : goal.invariant-loop-file
invariant-loop-file l = record {
  added : with_files (modules_of l.fn.composer) (map file_of l.files) ≡ with_files (modules_of l.composer) (map file_of (drop l.file-index l.files));
  settings : l.composer.settings ≡ l.fn.composer.settings;
}
