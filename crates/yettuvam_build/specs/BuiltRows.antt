-- Worked rows: the places of modules, the text of directives, and the files of reports.
use Rattle.std.specs.Prelude.{◌≡◌, refl, List, ℕ, [], ◌∷◌, Ok, codes}
use Rattle.naga_oil_lines.specs.Directives.{no_directives}
use Rattle.naga_oil_words.specs.Texts.{in_order}
use Rattle.yettuvam_build.specs.Built.{no_modules, or_fault, text_before, with_places}
use Rattle.yettuvam_build.specs.Files.{File}
use Rattle.yettuvam_build.specs.Reported.{file_text}

abbrev at : List ℕ → File
at path = record { path = path; text = [] }

-- a place that no file has adds nothing
place_rows : with_places (at (codes "a.wgsl") ∷ []) no_modules (3 ∷ 1 ∷ []) ≡ Ok no_modules
unfolding with_places
place_rows = refl

-- the directives of a text without any are no text; those of others end in an empty line
directive_rows :
    (or_fault (at (codes "a.wgsl")) (text_before (Ok (codes "fn f() {}", no_directives))) ≡ Ok [])
    × (or_fault (at (codes "a.wgsl")) (text_before (Ok ([], record no_directives { diagnostics = record { severity = codes "off"; rule = codes "r"; line = 0 } ∷ [] })))
    ≡ Ok (codes "diagnostic(off, r);\n\n"))
unfolding in_order
directive_rows = (refl, refl)

-- the first file at a path; a path that no file has
file_rows :
    (file_text (codes "b") (record { path = codes "a"; text = codes "1" } ∷ record { path = codes "b"; text = codes "2" } ∷ record { path = codes "b"; text = codes "3" } ∷ []) ≡ codes "2")
    × (file_text (codes "c") (record { path = codes "a"; text = codes "1" } ∷ []) ≡ [])
file_rows = (refl, refl)
