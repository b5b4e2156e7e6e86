-- The code's lines of a text, seen as `Line`s.
use Rattle.std.specs.Prelude.{ℕ, List}
use Rattle.std.specs.Cow.{cow_str_bytes}
use Rattle.naga_oil_conditions.specs.declared.source_lines.SourceLine.{SourceLine}
use Rattle.naga_oil_conditions.specs.Line.{Line}

abbrev pub line_of : SourceLine → Line
line_of l = record { at = l.offset; text = l.text.now; covered = cow_str_bytes l.covered }

-- the remaining lines, and the place where the first of them begins or would begin
pub record Left : Type 0 where
  pub place : ℕ
  pub left : List Line
