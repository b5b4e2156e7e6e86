-- The order in which the modules of files are added, or the report of why there is none.
use Rattle.std.specs.Prelude.{ℕ, List, [], ◌∷◌, ◌++◌, map, codes, slice_get, Option, Some, None, Result, Ok, Err}
use Rattle.std.specs.List.{flat_map}
use Rattle.yettuvam_files.specs.Files.{Unordered, cycle, sorted_files, twins}
use Rattle.yettuvam_build.specs.Files.{File}

abbrev pub path_of : Option File → List ℕ
path_of (Some f) = f.path
path_of None = []

-- the path of the file at a place
abbrev pub path_at : List File → ℕ → List ℕ
path_at fs place = path_of (slice_get fs place)

-- ---- reports

-- two files have the same import path
abbrev pub twins_report : (first second : List ℕ) → List ℕ
twins_report first second = codes "error: " ++ first ++ codes " and " ++ second ++ codes " have the same import path\n"

abbrev pub importer : List File → ℕ → List ℕ
importer fs place = path_at fs place ++ codes " imports "

abbrev pub first_path : List File → List ℕ → List ℕ
first_path fs [] = []
first_path fs (place ∷ places) = path_at fs place

-- each of the files at places imports the next, and the last the first
abbrev pub cycle_report : List File → (places : List ℕ) → List ℕ
cycle_report fs places = codes "error: a module imports itself: " ++ flat_map (importer fs) places ++ first_path fs places ++ codes "\n"

abbrev pub unordered_report : List File → Unordered → List ℕ
unordered_report fs (twins first second) = twins_report (path_at fs first) (path_at fs second)
unordered_report fs (cycle places) = cycle_report fs places

-- ---- the order

abbrev pub or_unordered : List File → Result (List ℕ) Unordered → Result (List ℕ) (List ℕ)
or_unordered fs (Ok order) = Ok order
or_unordered fs (Err why) = Err (unordered_report fs why)

-- the places of files in an order in which each stands after those whose modules it imports, or the report of why there is none
abbrev pub module_order : List File → Result (List ℕ) (List ℕ)
module_order fs = or_unordered fs (sorted_files (map (λ f. f.text) fs))
