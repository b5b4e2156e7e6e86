-- The line that a mark stands in.
use Rattle.std.specs.Prelude.{ℕ, ◌-◌, Bool, ◌==◌, ◌&&◌, ◌||◌, nat_lt, nat_le, if◌then◌else◌, List, [], ◌∷◌, length, take, drop, slice_index}
use Rattle.std.specs.List.{slice_split}
use Rattle.std.specs.Str.Lines.{strip_carriage_return}
use Rattle.yettuvam_report.specs.declared.line.Line.{Line as CodeLine}

-- ---- places

-- whether a character begins at a place of a text, or the text ends there
abbrev pub is_boundary : List ℕ → ℕ → Bool
is_boundary text at = (at == length text) || (nat_lt at (length text) && (nat_lt (slice_index text at) 128 || nat_le 192 (slice_index text at)))

-- the texts before and after a place; one after the end, or within a character, counts as the end
abbrev pub cut : List ℕ → ℕ → List ℕ × List ℕ
cut text at = if is_boundary text at then (take at text, drop at text) else (text, [])

abbrev pub text_before : List ℕ → ℕ → List ℕ
text_before text at = (cut text at).0

-- ---- lines

-- the parts of a text between line feeds; there is always one
abbrev pub lines_of : List ℕ → List (List ℕ)
lines_of text = slice_split (λ b. b == 10) text

abbrev pub last_of : List (List ℕ) → List ℕ
last_of [] = []
last_of (x ∷ []) = x
last_of (x ∷ y ∷ more) = last_of (y ∷ more)

-- the first of lines, without a carriage return before a line feed
abbrev pub first_of : List (List ℕ) → List ℕ
first_of [] = []
first_of (x ∷ []) = x
first_of (x ∷ y ∷ more) = strip_carriage_return x

-- the first line of a text, without its end
abbrev pub first_line : List ℕ → List ℕ
first_line text = first_of (lines_of text)

-- a line, by its number from 1: its text before a mark, in the mark and after the mark
pub record Line : Type 0 where
  pub number : ℕ
  pub front : List ℕ
  pub marked : List ℕ
  pub after : List ℕ

-- the line of lines before and of a rest that is marked up to a place
abbrev pub line_between : (before : List (List ℕ)) (rest : List ℕ × List ℕ) → Line
line_between before rest = record { number = length before; front = last_of before; marked = rest.0; after = rest.1 }

-- the line of the bytes from a start to an end
abbrev pub line_at : List ℕ → (start end : ℕ) → Line
line_at text start end = line_between (lines_of (cut text start).0) (cut (first_line (cut text start).1) (end - start))

-- ---- as the code has it
abbrev pub line_view : CodeLine → Line
line_view l = record { number = l.number; front = l.front.now; marked = l.marked.now; after = l.after.now }
