use Rattle.std.proofs.Common.{◌≡◌, ◌++◌, map, string_bytes, take}
use Rattle.std.specs.List.{flat_map}
use Rattle.naga_oil_registry.specs.Report.{note_line}
use Rattle.naga_oil_registry.proofs.report.push_note_lines.Given as goal

abbrev pub invariant-loop-note : goal.invariant-loop-note
invariant-loop-note l = string_bytes l.out ≡ string_bytes l.fn.out ++ flat_map note_line (map string_bytes (take l.note-index l.said))
