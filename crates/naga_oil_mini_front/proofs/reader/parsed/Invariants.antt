use Rattle.std.proofs.Common.{◌≡◌, ◌≤◌, ◌-◌, length}
use denote.Shadow.{shadow}
use denote.Text.{Utf8}
use Rattle.naga_oil_ir.specs.ModuleValue.{module_value}
use Rattle.naga_oil_mini_front.specs.Reader.{with_lines, placed_lines, start}
use Rattle.naga_oil_mini_front.specs.Reader.{Knows}
use Rattle.naga_oil_mini_front.proofs.reader.parsed.Given as goal

abbrev pub invariant-loop-rest : goal.invariant-loop-rest
invariant-loop-rest l = record {
  whole : with_lines (placed_lines (length l.text - length l.rest) l.rest) (module_value l.reader.module_) ≡ with_lines (placed_lines 0 l.text) start;
  within : length l.rest ≤ length l.text;
  utf8 : shadow (Utf8 l.rest);
  known : Knows l.reader;
}

abbrev pub decreases-loop-rest : goal.decreases-loop-rest
decreases-loop-rest l = length l.rest
