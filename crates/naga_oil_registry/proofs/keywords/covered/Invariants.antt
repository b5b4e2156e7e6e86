use Rattle.std.proofs.Common.{◌≡◌, ◌++◌}
use Rattle.std.specs.List.{flat_map}
use Rattle.std.specs.String.{string_bytes}
use Rattle.naga_oil_lines.specs.CoveredLines.{covered_lines_left}
use Rattle.naga_oil_registry.specs.Keywords.{covered_text}
use Rattle.naga_oil_registry.specs.Sanitized.{end_line}
use Rattle.naga_oil_registry.proofs.keywords.covered.Given as goal

abbrev pub invariant-loop-line : goal.invariant-loop-line
invariant-loop-line l = string_bytes l.covered ++ flat_map end_line (covered_lines_left l.line-iterator) ≡ covered_text l.text
