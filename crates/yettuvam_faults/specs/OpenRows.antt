-- Worked rows: open conditions.
use Rattle.std.specs.Prelude.{◌≡◌, refl, true, false, [], ◌∷◌, codes}
use Rattle.naga_oil_conditions.specs.Computing.{line_kinds}
use Rattle.naga_oil_conditions.specs.Kind.{condition, defined, endif, imports, otherwise}
use Rattle.naga_oil_lines.specs.Cover.{cover}
use Rattle.yettuvam_faults.specs.Open.{open_after, open_line}

-- the first condition of a chain opens, an end closes the last, and every other line leaves what is open
after_rows :
    (open_after (3 ∷ []) 7 (condition false (defined (codes "A"))) ≡ 3 ∷ 7 ∷ [])
    × (open_after (3 ∷ []) 7 (condition true otherwise) ≡ 3 ∷ [])
    × (open_after (3 ∷ 7 ∷ []) 9 endif ≡ 3 ∷ [])
    × (open_after [] 9 endif ≡ [])
    × (open_after (3 ∷ []) 7 imports ≡ 3 ∷ [])
after_rows = (refl, refl, refl, refl, refl)

-- the innermost open condition; the end of a text without one
line_rows :
    (open_line (codes "#ifdef A\n#ifdef B\n") 18 ≡ 9)
    × (open_line (codes "#ifdef A\n#ifdef B\n#endif\n") 25 ≡ 0)
    × (open_line (codes "x") 1 ≡ 1)
unfolding open_line line_kinds cover
line_rows = (refl, refl, refl)
