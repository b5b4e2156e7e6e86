-- Worked rows: the lines of marks.
use Rattle.std.specs.Prelude.{◌≡◌, refl, false, true, ◌∷◌, [], codes}
use Rattle.yettuvam_report.specs.Line.{cut, is_boundary, line_at, text_before}

-- `é` takes the bytes 195 and 169; a place in it counts as the end
boundary_rows :
    (is_boundary (97 ∷ 195 ∷ 169 ∷ []) 1 ≡ true)
    × (is_boundary (97 ∷ 195 ∷ 169 ∷ []) 2 ≡ false)
    × (is_boundary (97 ∷ 195 ∷ 169 ∷ []) 3 ≡ true)
    × (is_boundary (97 ∷ 195 ∷ 169 ∷ []) 4 ≡ false)
    × (text_before (97 ∷ 195 ∷ 169 ∷ []) 1 ≡ codes "a")
    × (text_before (97 ∷ 195 ∷ 169 ∷ []) 2 ≡ 97 ∷ 195 ∷ 169 ∷ [])
    × (cut (codes "abc") 9 ≡ (codes "abc", []))
boundary_rows = (refl, refl, refl, refl, refl, refl, refl)

-- the second line; a mark of two lines, up to the end of the first; a line that `\r\n` ends
line_rows :
    (line_at (codes "one\ntwo\n") 5 6 ≡ record { number = 2; front = codes "t"; marked = codes "w"; after = codes "o" })
    × (line_at (codes "one\ntwo\n") 1 6 ≡ record { number = 1; front = codes "o"; marked = codes "ne"; after = [] })
    × (line_at (codes "one\r\ntwo\r\n") 5 99 ≡ record { number = 2; front = []; marked = codes "two"; after = [] })
line_rows = (refl, refl, refl)

-- the empty text; the end of a text that ends a line; the last line without an end; an empty mark, also with its end before its start
end_rows :
    (line_at [] 0 0 ≡ record { number = 1; front = []; marked = []; after = [] })
    × (line_at (codes "one\n") 4 4 ≡ record { number = 2; front = []; marked = []; after = [] })
    × (line_at (codes "one\n") 99 100 ≡ record { number = 2; front = []; marked = []; after = [] })
    × (line_at (codes "one\ntwo") 5 99 ≡ record { number = 2; front = codes "t"; marked = codes "wo"; after = [] })
    × (line_at (codes "one") 2 1 ≡ record { number = 1; front = codes "on"; marked = []; after = codes "e" })
end_rows = (refl, refl, refl, refl, refl)
