use Rattle.std.proofs.Common.{◌≡◌, drop}
use Rattle.naga_oil_ir.specs.ModuleValue.{module_value}
use Rattle.naga_oil_palette.specs.Reader.{with_lines, texts, parsed}
use Rattle.naga_oil_palette.proofs.reader.parsed.Given as goal

abbrev pub invariant-loop-line : goal.invariant-loop-line
invariant-loop-line l = with_lines l.at (texts (drop l.line-index l.line-items)) (module_value l.made) ≡ parsed l.text
