use Rattle.std.proofs.Common.{◌≡◌, ◌++◌, length, string_bytes}
use denote.Text.{Utf8}
use denote.Shadow.{shadow}
use Rattle.yettuvam_report.specs.Report.{shown}
use Rattle.yettuvam_report.proofs.layout.push_shown.Given as goal

abbrev pub invariant-loop-first : goal.invariant-loop-first
invariant-loop-first l = record {
  text : shadow (Utf8 l.rest);
  same : string_bytes l.out ++ shown l.rest ≡ string_bytes l.fn.out ++ shown l.text;
}

abbrev pub decreases-loop-first : goal.decreases-loop-first
decreases-loop-first l = length l.rest
