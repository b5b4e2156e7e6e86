-- Marks of expressions, by their places.
use Rattle.std.specs.Prelude.{ℕ, Bool, true, List, [], ◌∷◌, slice_set, Option, Some, None}

abbrev pub mark : ℕ → List Bool → List Bool
mark h ms = slice_set ms h true

abbrev pub mark_any : Option ℕ → List Bool → List Bool
mark_any None ms = ms
mark_any (Some h) ms = mark h ms

abbrev pub mark_all : List ℕ → List Bool → List Bool
mark_all [] ms = ms
mark_all (h ∷ hs) ms = mark_all hs (mark h ms)
