use Rattle.std.proofs.Common.{◌≡◌, ◌+◌, length}
use denote.Text.{Utf8}
use denote.Shadow.{shadow}
use Rattle.yettuvam_report.specs.Line.{last_of, lines_of}
use Rattle.yettuvam_report.proofs.line.last_line.Given as goal

abbrev pub invariant-loop-line : goal.invariant-loop-line
invariant-loop-line l = record {
  text : shadow (Utf8 l.rest);
  count : l.number + length (lines_of l.rest) ≡ length (lines_of l.text) + 1;
  last : last_of (lines_of l.rest) ≡ last_of (lines_of l.text);
}

abbrev pub decreases-loop-line : goal.decreases-loop-line
decreases-loop-line l = length l.rest
