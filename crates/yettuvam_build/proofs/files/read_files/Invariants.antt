use Rattle.std.proofs.Common.{◌≡◌, map, take}
use denote.Param.Always.{always_mut}
use Rattle.std.specs.List.{FoldsTo}
use Rattle.yettuvam_files.specs.Files.{texts_of}
use Rattle.yettuvam_build.specs.Files.{ReadsFile}
use Rattle.yettuvam_build.specs.Files.{file_of}
use Rattle.yettuvam_build.proofs.files.read_files.Given as goal

abbrev pub invariant-loop-file : goal.invariant-loop-file
invariant-loop-file g l = record {
  callable : always_mut g.F.FnMut l.initial.read → always_mut g.F.FnMut l.read;
  named : map (λ f. f.0.now) l.texts.items ≡ texts_of (take l.file-index l.files);
  read : FoldsTo (ReadsFile (goal.F-step g)) l.initial.read (map file_of l.texts.items) l.read;
}
