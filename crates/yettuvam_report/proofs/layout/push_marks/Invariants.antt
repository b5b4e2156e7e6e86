use Rattle.std.proofs.Common.{◌≡◌, ◌++◌, map, string_bytes, take}
use Rattle.std.specs.List.{flat_map}
use Rattle.yettuvam_report.specs.Report.{excerpt, mark_of}
use Rattle.yettuvam_report.proofs.layout.push_marks.Given as goal

abbrev pub invariant-loop-mark : goal.invariant-loop-mark
invariant-loop-mark l = string_bytes l.out ≡ string_bytes l.fn.out ++ flat_map (excerpt l.gutter l.path l.text) (map mark_of (take l.mark-index l.marks))
