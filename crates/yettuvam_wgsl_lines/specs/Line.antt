-- A line of a body.
use Rattle.std.specs.Prelude.{ℕ, ◌==◌, Bool, List, map, Option}
use Rattle.yettuvam_wgsl_lines.specs.declared.line.Line.{Line}
use Rattle.yettuvam_wgsl_lines.specs.declared.line.TheConstants.{EMIT}

-- a line, without the place of its operands in memory
pub record LineValue : Type 0 where
  pub kind : ℕ
  pub at : ℕ
  pub number : ℕ
  pub block : ℕ
  pub follows : Bool
  pub function : ℕ
  pub operands : List ℕ
  pub made : Option ℕ
  pub is_named : Bool

abbrev pub line_value : Line → LineValue
line_value l = record {
  kind = l.kind;
  at = l.at;
  number = l.number;
  block = l.block;
  follows = l.follows;
  function = l.function;
  operands = l.operands.items;
  made = l.made;
  is_named = l.is_named;
}

abbrev pub Lines : Type 0
Lines = List LineValue

abbrev pub lines_value : List Line → Lines
lines_value ls = map line_value ls

-- a line is an emitted expression
abbrev pub is_emitted : LineValue → Bool
is_emitted l = l.kind == EMIT
