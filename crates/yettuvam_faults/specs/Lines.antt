-- The lines of a text, and the part of a file's line that a part of another text's line comes from.
use Rattle.std.specs.Prelude.{ℕ, zero, suc, ◌+◌, ◌-◌, Bool, ◌==◌, ◌||◌, nat_le, if◌then◌else◌, List, length, drop, reverse, count_by}
use Rattle.std.specs.List.{after_first, before_first, common_prefix_len, position_or_len, prefix_len}
use Rattle.std.specs.Char.{is_ascii_alphanumeric}
use Rattle.std.specs.Str.{trim_end, trim_start}
use Rattle.yettuvam_report.specs.Line.{is_boundary, text_before}

-- a line: the place of its first byte, and its text without white space at its end
pub record Line : Type 0 where
  pub start : ℕ
  pub text : List ℕ

-- the bytes of a text from a start to an end
pub record Part : Type 0 where
  pub start : ℕ
  pub end : ℕ

-- ---- lines

-- the number of line ends before a place, which is the index of its line from 0
abbrev pub index_of : (text : List ℕ) → ℕ → ℕ
index_of text at = count_by (λ b. b == 10) (text_before text at)

abbrev pub is_end : ℕ → Bool
is_end b = b == 10

abbrev pub first_line : List ℕ → List ℕ
first_line text = before_first is_end text

-- the text after the first line, or the text itself if it is one line
abbrev pub next_line : List ℕ → List ℕ
next_line text = if position_or_len is_end text == length text then text else after_first is_end text

-- the text from a line on, by its index from 0, or from the last line on
abbrev pub from_line : (index : ℕ) → List ℕ → List ℕ
from_line zero text = text
from_line (suc index) text = from_line index (next_line text)

abbrev pub line_from : (text rest : List ℕ) → Line
line_from text rest = record { start = length text - length rest; text = trim_end (first_line rest) }

-- the line with an index from 0, or the last line
abbrev pub nth_line : (text : List ℕ) (index : ℕ) → Line
nth_line text index = line_from text (from_line index text)

-- a line without white space before it
abbrev pub whole_line : Line → Part
whole_line l = record { start = l.start + length l.text - length (trim_start l.text); end = l.start + length l.text }

-- ---- a line that was made of another

-- the number of bytes that two texts have in common at their front, and at their end
abbrev pub common_front : (a b : List ℕ) → ℕ
common_front a b = common_prefix_len (λ x y. x == y) a b

abbrev pub common_back : (a b : List ℕ) → ℕ
common_back a b = common_front (reverse a) (reverse b)

-- the numbers of bytes that two lines have in common at their front, and at their end after that
pub record Common : Type 0 where
  pub front : ℕ
  pub back : ℕ

abbrev pub common : (a b : List ℕ) → Common
common a b = record { front = common_front a b; back = common_back (drop (common_front a b) a) (drop (common_front a b) b) }

-- A place in a line, as a place in the line of this length that the line of another length was made of. A place within what differs
-- is where that begins, or where it ends.
abbrev pub begin_in : (ours theirs : ℕ) → Common → ℕ → ℕ
begin_in ours theirs c at = if nat_le at c.front then at else (if nat_le (theirs - at) c.back then ours - (theirs - at) else c.front)

abbrev pub end_in : (ours theirs : ℕ) → Common → ℕ → ℕ
end_in ours theirs c at = if nat_le at c.front then at else (if nat_le (theirs - at) c.back then ours - (theirs - at) else ours - c.back)

-- a place in a line if a character begins there or the line ends there, or else another place
abbrev pub on_boundary : (text : List ℕ) (at other : ℕ) → ℕ
on_boundary text at other = if is_boundary text at then at else other

abbrev pub part_by : Line → (theirs : ℕ) → Common → (start end : ℕ) → Part
part_by l theirs c start end = record {
  start = l.start + on_boundary l.text (begin_in (length l.text) theirs c start) 0;
  end = l.start + on_boundary l.text (end_in (length l.text) theirs c end) (length l.text);
}

-- the part of a line that a part of a line comes from which was made of it
abbrev pub part_of : Line → (theirs : List ℕ) → (start end : ℕ) → Part
part_of l theirs start end = part_by l (length theirs) (common l.text theirs) start end

abbrev pub part_between : (ours theirs : Line) → Part → Part
part_between ours theirs p = part_of ours theirs.text (p.start - theirs.start) (p.end - theirs.start)

-- the part of a file that a part of a text comes from which has the file's lines
unfoldable pub in_file : (file text : List ℕ) → Part → Part
in_file file text p = part_between (nth_line file (index_of text p.start)) (nth_line text (index_of text p.start)) p

-- ---- words

-- a byte of a letter, a digit, `_` or `:`
abbrev pub is_path_byte : ℕ → Bool
is_path_byte b = is_ascii_alphanumeric b || ((b == 95) || ((b == 58) || nat_le 128 b))

abbrev pub path_len : List ℕ → ℕ
path_len bytes = prefix_len is_path_byte bytes

abbrev pub word_from : (text : List ℕ) (start : ℕ) → Part
word_from text start = record { start = start; end = start + path_len (drop start text) }

-- the word at a place
abbrev pub word_at : (text : List ℕ) → ℕ → Part
word_at text at = word_from text (length (text_before text at))
