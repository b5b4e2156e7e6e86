-- Files, as the code has them.
use Rattle.std.proofs.Common.{◌≡◌, ℕ, List, map, option_map, String, Global, Bor}
use Rattle.std.proofs.lemmas.Option.{slice_get-map}
use Rattle.std.specs.Prelude.{slice_get}
use Rattle.yettuvam_build.specs.Files.{file_of}

abbrev pub CodeFile : Type 0
CodeFile = Bor (List ℕ) × String Global

-- the file at a place
pub file_at : (files : List CodeFile) (place : ℕ) → slice_get (map file_of files) place ≡ option_map file_of (slice_get files place)
file_at files place = slice_get-map file_of files place
