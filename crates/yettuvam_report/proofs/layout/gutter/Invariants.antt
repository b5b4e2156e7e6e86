use Rattle.std.proofs.Common.{◌≡◌, ◌≤◌, length, map, max}
use Rattle.yettuvam_report.specs.Report.{gutter, mark_of}
use Rattle.yettuvam_report.proofs.layout.gutter.Given as goal

abbrev pub invariant-loop-rest : goal.invariant-loop-rest
invariant-loop-rest l = record {
  least : 2 ≤ l.widest;
  same : max l.widest (gutter l.text (map mark_of l.rest)) ≡ gutter l.text (map mark_of l.marks);
}

abbrev pub decreases-loop-rest : goal.decreases-loop-rest
decreases-loop-rest l = length l.rest
