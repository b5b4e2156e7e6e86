use Rattle.std.proofs.Common.{◌≡◌, ℕ, List, length}
use Rattle.naga_oil_conditions.specs.Line.{source_lines}
use Rattle.naga_oil_pre.specs.KnownView.{HasMarks}
use Rattle.naga_oil_pre.specs.Metadata.{nothing_found, found_in}
use Rattle.naga_oil_pre.specs.MetadataView.{has_with, found_of}
use Rattle.naga_oil_pre.specs.Recorded.{is_recorded, names_of}
use Rattle.naga_oil_pre.proofs.metadata.read_text.Given as goal

abbrev pub invariant-loop-findings : goal.invariant-loop-findings
invariant-loop-findings l = record {
  marked : HasMarks l.findings.imports;
  found : found_in l.allow_defines (found_of l.findings) 0 l.source.left ≡ found_in l.allow_defines nothing_found 0 (source_lines l.cleaned);
  names : (name : List ℕ) → has_with l.findings.names (names_of l.source.left) name ≡ is_recorded l.cleaned name;
}

abbrev pub decreases-loop-findings : goal.decreases-loop-findings
decreases-loop-findings l = length l.source.left
