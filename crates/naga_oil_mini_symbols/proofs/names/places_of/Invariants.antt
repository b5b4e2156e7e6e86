use Rattle.std.proofs.Common.{◌≡◌, ℕ, List, take}
use Rattle.naga_oil_mini_symbols.specs.NameTable.{last_place, place_in, texts_of}
use Rattle.naga_oil_mini_symbols.proofs.names.places_of.Given as goal

abbrev pub invariant-loop-place : goal.invariant-loop-place
invariant-loop-place l = (q : List ℕ) → place_in l.places q ≡ last_place q (texts_of (take l.place l.names))
