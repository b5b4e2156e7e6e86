use Rattle.std.proofs.Common.{◌≡◌, ◌++◌, map, string_bytes, take}
use Rattle.std.specs.List.{flat_map}
use Rattle.yettuvam_report.specs.Report.{note_line}
use Rattle.yettuvam_report.proofs.layout.push_notes.Given as goal

abbrev pub invariant-loop-note : goal.invariant-loop-note
invariant-loop-note l = string_bytes l.out ≡ string_bytes l.fn.out ++ flat_map (note_line l.gutter) (map string_bytes (take l.note-index l.notes))
