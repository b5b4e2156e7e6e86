use Rattle.std.proofs.Common.{◌≡◌, ◌++◌, drop}
use Rattle.naga_oil_registry.specs.ReportView.{starts_after, line_starts}
use Rattle.naga_oil_registry.proofs.report.line_starts.Given as goal

abbrev pub invariant-loop-at : goal.invariant-loop-at
invariant-loop-at l = l.starts.items ++ starts_after l.at (drop l.at l.text) ≡ line_starts l.text
