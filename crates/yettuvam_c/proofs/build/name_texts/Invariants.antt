use Rattle.std.proofs.Common.{◌≡◌, map, take}
use Rattle.yettuvam_files.specs.Files.{texts_of}
use Rattle.yettuvam_c.specs.Built.{name_text}
use Rattle.yettuvam_c.proofs.build.name_texts.Given as goal

abbrev pub invariant-loop-name : goal.invariant-loop-name
invariant-loop-name l = texts_of l.all.items ≡ map name_text (take l.name-index l.names)
