use Rattle.std.proofs.Common.{◌≡◌, ◌++◌, ◌+◌, ◌^◌, ◌≤◌, length, string_bytes}
use Rattle.naga_oil_conditions.specs.Line.{end_place}
use Rattle.naga_oil_pre.specs.Reading.{taken, after_taken}
use Rattle.naga_oil_pre.specs.Preprocessed.{import_text}
use Rattle.naga_oil_pre.specs.Taking.{TakesAll}
use Rattle.naga_oil_pre.proofs.imports.take_lines.Given as goal

abbrev pub invariant-loop-braces : goal.invariant-loop-braces
invariant-loop-braces g l = record {
  braces : l.braces ≤ l.source.place;
  left : after_taken l.braces l.source.left ≡ after_taken l.fn.braces l.fn.source.left;
  sink : (new : g.row.S.Denot) → TakesAll g.S.TakesLine.Takes l.sink (taken l.braces l.source.left) new → TakesAll g.S.TakesLine.Takes l.fn.sink (taken l.fn.braces l.fn.source.left) new;
  import : string_bytes l.import ++ import_text (taken l.braces l.source.left) ≡ string_bytes l.fn.import ++ import_text (taken l.fn.braces l.fn.source.left);
  fits : length (string_bytes l.import) + l.fn.source.place ≤ length (string_bytes l.fn.import) + l.source.place;
  room : l.fn.source.place ≤ 2 ^ 63 → l.source.place ≤ 2 ^ 63;
  end : end_place l.source.place l.source.left ≡ end_place l.fn.source.place l.fn.source.left;
  shorter : length l.source.left ≤ length l.fn.source.left;
}

abbrev pub decreases-loop-braces : goal.decreases-loop-braces
decreases-loop-braces g l = length l.source.left
