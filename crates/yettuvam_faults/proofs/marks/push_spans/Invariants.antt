use Rattle.std.proofs.Common.{◌≡◌, ◌++◌, map, take}
use Rattle.std.specs.List.{flat_map}
use Rattle.naga_oil_ir.specs.Backend.{labels}
use Rattle.yettuvam_faults.specs.Marks.{span_mark}
use Rattle.yettuvam_faults.specs.MarksView.{source_view}
use Rattle.yettuvam_report.specs.Report.{mark_of}
use Rattle.yettuvam_faults.proofs.marks.push_spans.Given as goal

abbrev pub invariant-loop-span : goal.invariant-loop-span
invariant-loop-span l = map mark_of l.marks.items ≡ map mark_of l.fn.marks.items ++ flat_map (span_mark (source_view l.source)) (labels (take l.span-index l.spans))
