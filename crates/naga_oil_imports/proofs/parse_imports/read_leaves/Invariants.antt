use Rattle.std.proofs.Common.{◌≡◌, length, map}
use Rattle.naga_oil_lines.specs.Tokenizer.{lexeme_of}
use Rattle.naga_oil_imports.specs.Leaves.{parts, import_leaves}
use Rattle.naga_oil_imports.specs.ImportReader.{run}
use Rattle.naga_oil_imports.specs.ImportView.{reader_of}
use Rattle.naga_oil_imports.proofs.parse_imports.read_leaves.Given as goal

abbrev pub invariant-loop-part : goal.invariant-loop-part
invariant-loop-part l = run (length l.input) (reader_of l.line) (parts 0 (map lexeme_of l.rest)) ≡ import_leaves l.input

abbrev pub decreases-loop-part : goal.decreases-loop-part
decreases-loop-part l = length l.rest
