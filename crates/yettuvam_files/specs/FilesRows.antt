-- Orders of items and of files, and cycles, worked by hand.
use Rattle.std.specs.Prelude.{◌≡◌, refl, ℕ, List, [], ◌∷◌, map, Some, None, Result, Ok, Err, codes}
use Rattle.naga_oil_imports.specs.Uses.{Import}
use Rattle.yettuvam_files.specs.Files.{Header, add_headers, cycle, sorted_headers, twins}
use Rattle.yettuvam_files.specs.Rounds.{ordered, place, round, rounds}

-- ---- items

order_rows :
    (ordered [] ≡ Ok [])
    × (ordered ([] ∷ [] ∷ []) ≡ Ok (0 ∷ 1 ∷ []))
    × (ordered ((1 ∷ []) ∷ [] ∷ []) ≡ Ok (1 ∷ 0 ∷ []))
    × (ordered ((2 ∷ 1 ∷ []) ∷ (2 ∷ []) ∷ [] ∷ []) ≡ Ok (2 ∷ 1 ∷ 0 ∷ []))
    × (ordered ((7 ∷ []) ∷ []) ≡ Ok (0 ∷ []))
unfolding place round rounds
order_rows = (refl, refl, refl, refl, refl)

-- an item that uses itself; two that use each other, which a third uses
cycle_rows :
    (ordered ((0 ∷ []) ∷ []) ≡ Err (0 ∷ []))
    × (ordered ((1 ∷ []) ∷ (2 ∷ []) ∷ (1 ∷ []) ∷ []) ≡ Err (1 ∷ 2 ∷ []))
unfolding place round rounds
cycle_rows = (refl, refl)

-- ---- files

abbrev import : List ℕ → Import
import name = record { import = name; items = [] }

abbrev file_of : List ℕ → (imports : List (List ℕ)) → Header
file_of name imports = record { name = Some name; imports = map import imports }

abbrev nameless : Header
nameless = record { name = None; imports = import (codes "b") ∷ [] }

-- a file stands after the files that it imports; an import that no file has is no hindrance
file_rows :
    (sorted_headers (file_of (codes "a") (codes "b" ∷ []) ∷ file_of (codes "b") [] ∷ []) ≡ Ok (1 ∷ 0 ∷ []))
    × (sorted_headers (file_of (codes "a") (codes "c" ∷ []) ∷ file_of (codes "b") [] ∷ []) ≡ Ok (0 ∷ 1 ∷ []))
    × (sorted_headers (nameless ∷ nameless ∷ file_of (codes "b") [] ∷ []) ≡ Ok (2 ∷ 0 ∷ 1 ∷ []))
unfolding place round rounds add_headers sorted_headers
file_rows = (refl, refl, refl)

refused_rows :
    (sorted_headers (file_of (codes "a") [] ∷ file_of (codes "b") [] ∷ file_of (codes "a") [] ∷ []) ≡ Err (twins 0 2))
    × (sorted_headers (file_of (codes "a") (codes "b" ∷ []) ∷ file_of (codes "b") (codes "a" ∷ []) ∷ []) ≡ Err (cycle (0 ∷ 1 ∷ [])))
unfolding place round rounds add_headers sorted_headers
refused_rows = (refl, refl)
