-- Worked rows: lines, and the parts that lines have in common.
use lib.Utf8.{encode}
use Rattle.std.specs.Prelude.{◌≡◌, refl, [], ◌∷◌, codes}
use Rattle.std.specs.Str.{chars, trim_end, trim_start}
use Rattle.yettuvam_faults.specs.Lines.{common, in_file, index_of, nth_line, whole_line, word_at}

-- the index counts line ends; past the last line it is the last
line_rows :
    (index_of (codes "one\ntwo\n") 5 ≡ 1)
    × (nth_line (codes "one \r\ntwo") 0 ≡ record { start = 0; text = codes "one" })
    × (nth_line (codes "one\ntwo") 1 ≡ record { start = 4; text = codes "two" })
    × (nth_line (codes "one\ntwo") 9 ≡ record { start = 4; text = codes "two" })
    × (nth_line (codes "one\n") 1 ≡ record { start = 4; text = [] })
    × (whole_line (record { start = 4; text = codes "  two" }) ≡ record { start = 6; end = 9 })
unfolding trim_end trim_start chars encode
line_rows = (refl, refl, refl, refl, refl, refl)

-- what is common at the end doesn't reach into what is common at the front
common_rows :
    (common (codes "a::f(x)") (codes "fXX(x)") ≡ record { front = 0; back = 3 })
    × (common (codes "aa") (codes "aaa") ≡ record { front = 2; back = 0 })
    × (common (codes "same") (codes "same") ≡ record { front = 4; back = 0 })
common_rows = (refl, refl, refl)

-- before, at, within and after what differs; in a line of equal text; in a line that was filled up with spaces
part_rows :
    (in_file (codes "x = a::f(y)") (codes "x = fXX(y)") (record { start = 0; end = 1 }) ≡ record { start = 0; end = 1 })
    × (in_file (codes "x = a::f(y)") (codes "x = fXX(y)") (record { start = 4; end = 7 }) ≡ record { start = 4; end = 8 })
    × (in_file (codes "x = a::f(y)") (codes "x = fXX(y)") (record { start = 5; end = 6 }) ≡ record { start = 4; end = 8 })
    × (in_file (codes "x = a::f(y)") (codes "x = fXX(y)") (record { start = 8; end = 9 }) ≡ record { start = 9; end = 10 })
    × (in_file (codes "1\nx = y") (codes "1\nx = y") (record { start = 6; end = 7 }) ≡ record { start = 6; end = 7 })
    × (in_file (codes "x = #LONG + y;") (codes "x = 1 + y;    ") (record { start = 8; end = 9 }) ≡ record { start = 12; end = 13 })
unfolding in_file trim_end chars encode
part_rows = (refl, refl, refl, refl, refl, refl)

-- a place within a character of the file's line counts as the line's start or end: `é` and `è` share their first byte
boundary_row : in_file (195 ∷ 169 ∷ []) (195 ∷ 168 ∷ 120 ∷ []) (record { start = 2; end = 2 }) ≡ record { start = 0; end = 2 }
unfolding in_file trim_end chars encode
boundary_row = refl

word_rows :
    (word_at (codes "x = a::f(y)") 4 ≡ record { start = 4; end = 8 })
    × (word_at (codes "x = a") 9 ≡ record { start = 5; end = 5 })
    × (word_at (codes "(") 0 ≡ record { start = 0; end = 0 })
word_rows = (refl, refl, refl)
