use Rattle.std.proofs.Common.{◌≡◌, ◌++◌, string_bytes}
use Rattle.std.specs.Str.Iter.{lines_rest}
use Rattle.std.specs.Str.Lines.{lines}
use Rattle.naga_oil_pre.proofs.ExtractedLemmas.{followed}
use Rattle.naga_oil_pre.proofs.directives.push_lines.Given as goal

abbrev pub invariant-loop-line : goal.invariant-loop-line
invariant-loop-line l = string_bytes l.out ++ followed (lines (lines_rest l.line-iterator)) ≡ string_bytes l.initial.out ++ followed (lines (lines_rest l.initial.line-iterator))
