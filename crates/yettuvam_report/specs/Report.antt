-- The report of an error in a text.
use Rattle.std.specs.Prelude.{ℕ, ◌+◌, ◌-◌, max, ◌==◌, if◌then◌else◌, List, [], ◌∷◌, ◌++◌, length, map, replicate, codes, chars, encode_utf8_all, string_bytes}
use Rattle.std.specs.Char.{is_ascii_control}
use Rattle.std.specs.Fmt.{decimal}
use Rattle.std.specs.List.{flat_map}
use Rattle.yettuvam_report.specs.Line.{Line, line_at}
use Rattle.yettuvam_report.specs.declared.layout.Mark.{Mark as CodeMark}

-- a part of a text, from its first byte to the byte after its last, and what is said of it
pub record Mark : Type 0 where
  pub start : ℕ
  pub end : ℕ
  pub label : List ℕ

-- ---- parts of lines

abbrev pub spaces : ℕ → List ℕ
spaces n = replicate n 32

-- a text with a space for each control character
abbrev pub shown : List ℕ → List ℕ
shown text = encode_utf8_all (map (λ c. if is_ascii_control c then 32 else c) (chars text))

-- what is said of a mark, at the end of a line
abbrev pub label_end : List ℕ → List ℕ
label_end label = if length label == 0 then codes "\n" else codes " " ++ label ++ codes "\n"

-- the width of a number and of a space before it
abbrev pub number_width : ℕ → ℕ
number_width n = length (decimal n) + 1

-- the number of the line of a mark
abbrev pub number_of : List ℕ → Mark → ℕ
number_of text m = (line_at text m.start m.end).number

-- the width of the gutter, in which the numbers of lines stand
abbrev pub gutter : (text : List ℕ) → List Mark → ℕ
gutter text [] = 2
gutter text (m ∷ marks) = max (number_width (number_of text m)) (gutter text marks)

-- ---- lines

abbrev pub path_line : (gutter : ℕ) (path : List ℕ) → List ℕ
path_line gutter path = spaces gutter ++ codes "--> " ++ path ++ codes "\n"

abbrev pub column_of : Line → ℕ
column_of l = length (chars l.front) + 1

-- the path, the line and the column
abbrev pub place_line : (gutter : ℕ) (path : List ℕ) → Line → List ℕ
place_line gutter path l = spaces gutter ++ codes "--> " ++ path ++ codes ":" ++ decimal l.number ++ codes ":" ++ decimal (column_of l) ++ codes "\n"

-- an empty line of the gutter
abbrev pub bar_line : (gutter : ℕ) → List ℕ
bar_line gutter = spaces gutter ++ codes " |\n"

-- a number at the end of the gutter
abbrev pub number_front : (gutter number : ℕ) → List ℕ
number_front gutter number = spaces (gutter - length (decimal number)) ++ decimal number ++ codes " | "

abbrev pub shown_line : Line → List ℕ
shown_line l = shown l.front ++ shown l.marked ++ shown l.after ++ codes "\n"

-- `^` under each character of a part, once if there is none
abbrev pub carets : List ℕ → List ℕ
carets marked = replicate (max (length (chars marked)) 1) 94

abbrev pub mark_line : (gutter : ℕ) → Line → (label : List ℕ) → List ℕ
mark_line gutter l label = spaces gutter ++ codes " | " ++ spaces (length (chars l.front)) ++ carets l.marked ++ label_end label

abbrev pub line_excerpt : (gutter : ℕ) (path : List ℕ) → Line → (label : List ℕ) → List ℕ
line_excerpt gutter path l label = place_line gutter path l ++ bar_line gutter ++ number_front gutter l.number ++ shown_line l ++ mark_line gutter l label

-- a mark: its place, its line, and `^` under its part of the line
abbrev pub excerpt : (gutter : ℕ) (path text : List ℕ) → Mark → List ℕ
excerpt gutter path text m = line_excerpt gutter path (line_at text m.start m.end) m.label

-- the marks, or the path if there are none
abbrev pub marks_lines : (gutter : ℕ) (path text : List ℕ) → List Mark → List ℕ
marks_lines gutter path text marks = if length marks == 0 then path_line gutter path else flat_map (excerpt gutter path text) marks

abbrev pub note_line : (gutter : ℕ) (note : List ℕ) → List ℕ
note_line gutter note = spaces gutter ++ codes " = note: " ++ note ++ codes "\n"

-- ---- the report

abbrev pub report_within : (gutter : ℕ) (message path text : List ℕ) → List Mark → (notes : List (List ℕ)) → List ℕ
report_within gutter message path text marks notes = codes "error: " ++ message ++ codes "\n" ++ marks_lines gutter path text marks ++ flat_map (note_line gutter) notes

-- the message, the marks and the notes of an error in the text of a path
unfoldable pub report : (message path text : List ℕ) → List Mark → (notes : List (List ℕ)) → List ℕ
report message path text marks notes = report_within (gutter text marks) message path text marks notes

-- ---- as the code has it
abbrev pub mark_of : CodeMark → Mark
mark_of m = record { start = m.start; end = m.end; label = string_bytes m.label }
