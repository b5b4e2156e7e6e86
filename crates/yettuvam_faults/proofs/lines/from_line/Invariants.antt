use Rattle.std.proofs.Common.{◌≡◌, ◌-◌, ◌≤◌, length}
use denote.Text.{Utf8}
use denote.Shadow.{shadow}
use Rattle.yettuvam_faults.specs.Lines.{from_line}
use Rattle.yettuvam_faults.proofs.lines.from_line.Given as goal

abbrev pub invariant-loop-passed : goal.invariant-loop-passed
invariant-loop-passed l = record {
  text : shadow (Utf8 l.rest);
  value : from_line (l.index - l._passed) l.rest ≡ from_line l.index l.text;
  shorter : length l.rest ≤ length l.text;
}
