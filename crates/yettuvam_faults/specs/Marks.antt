-- The parts of a file that the report of an error marks.
use Rattle.std.specs.Prelude.{ℕ, ◌-◌, ◌%◌, Bool, ◌&&◌, nat_le, is_some, if◌then◌else◌, Option, Some, None, List, [], ◌∷◌, ◌++◌}
use Rattle.std.specs.List.{flat_map}
use Rattle.naga_oil_conditions.specs.Fault.{Fault}
use Rattle.naga_oil_ir.specs.Spans.{bounds_of, span_stride}
use Rattle.naga_oil_ir.specs.declared.span.Span.{Span}
use Rattle.naga_oil_lines.specs.Undecorate.{undecoration}
use Rattle.yettuvam_faults.specs.Lines.{Part, in_file, index_of, nth_line, whole_line}
use Rattle.yettuvam_faults.specs.Lines as lines
use Rattle.yettuvam_faults.specs.Open.{open_line}
use Rattle.yettuvam_faults.specs.Place.{Place, nowhere, bytes, line_index, line_at, word_at, left_open, named, item, label_of, place_of, spans_of}
use Rattle.yettuvam_report.specs.Report.{Mark}

-- the file of an error, and the texts that were made of it, in which places of errors count
pub record Source : Type 0 where
  -- what the report calls the file
  pub path : List ℕ
  -- the text of the file
  pub file : List ℕ
  -- the text as it is read, without its directives
  pub cleaned : List ℕ
  -- the text after preprocessing
  pub parsed : List ℕ
  -- the offset of the preprocessed text in the text that spans count in
  pub offset : ℕ

-- ---- spans

-- a place of a span, as a place of a text with an offset; the bits from 2 ^ 21 on are the index of a module
abbrev pub span_place : (offset place : ℕ) → ℕ
span_place offset place = place % span_stride - offset

-- whether a span lies in a text with an offset: it has a place, and isn't in the header before the text
abbrev pub is_here : (offset : ℕ) → Span → Bool
is_here offset span = is_some (bounds_of span) && nat_le offset (span.start % span_stride)

abbrev pub spanned : (offset : ℕ) → Span → Part
spanned offset span = record { start = span_place offset span.start; end = span_place offset span.end }

abbrev pub span_part : Source → Span → Option Part
span_part s span = if is_here s.offset span then Some (in_file s.file s.parsed (spanned s.offset span)) else None

-- ---- places

-- a line of the file, by its index from 0
abbrev pub line_part : Source → (index : ℕ) → Part
line_part s index = whole_line (nth_line s.file index)

-- the part of the file at a place, if there is one
abbrev pub part_in : Source → Place → Option Part
part_in s nowhere = None
part_in s (bytes start end) = Some (record { start = start; end = end })
part_in s (line_index index) = Some (line_part s index)
part_in s (line_at at) = Some (line_part s (index_of s.cleaned at))
part_in s (left_open end) = Some (line_part s (index_of s.cleaned (open_line s.cleaned end)))
part_in s (word_at at) = Some (in_file s.file s.cleaned (lines.word_at s.cleaned at))
part_in s (named at) = Some (in_file s.file s.parsed (lines.word_at s.parsed at))
part_in s (item span) = span_part s span

-- ---- marks

-- the mark of a part, if there is one
abbrev pub mark_with : (label : List ℕ) → Option Part → List Mark
mark_with label None = []
mark_with label (Some p) = record { start = p.start; end = p.end; label = label } ∷ []

-- the mark of a span with a label, whose names are undecorated
abbrev pub span_mark : Source → Span × List ℕ → List Mark
span_mark s span = mark_with (undecoration span.1) (span_part s span.0)

-- the marks of an error: that of its place, and those of a front end's spans
unfoldable pub marks_of : Source → Option Fault → List Mark
marks_of s f = mark_with (label_of f) (part_in s (place_of f)) ++ flat_map (span_mark s) (spans_of f)
