-- Worked rows: the reports of files without an order.
use Rattle.std.specs.Prelude.{◌≡◌, refl, ℕ, List, [], ◌∷◌, Ok, Err, codes}
use Rattle.yettuvam_files.specs.Files.{cycle, twins}
use Rattle.yettuvam_build.specs.Files.{File}
use Rattle.yettuvam_build.specs.Order.{or_unordered}

abbrev at : List ℕ → File
at path = record { path = path; text = [] }

abbrev files : List File
files = at (codes "a.wgsl") ∷ at (codes "b.wgsl") ∷ at (codes "c.wgsl") ∷ []

report_rows :
    (or_unordered files (Ok (2 ∷ 0 ∷ 1 ∷ [])) ≡ Ok (2 ∷ 0 ∷ 1 ∷ []))
    × (or_unordered files (Err (twins 0 2)) ≡ Err (codes "error: a.wgsl and c.wgsl have the same import path\n"))
    × (or_unordered files (Err (cycle (1 ∷ 2 ∷ []))) ≡ Err (codes "error: a module imports itself: b.wgsl imports c.wgsl imports b.wgsl\n"))
    × (or_unordered files (Err (cycle (0 ∷ []))) ≡ Err (codes "error: a module imports itself: a.wgsl imports a.wgsl\n"))
report_rows = (refl, refl, refl, refl)
