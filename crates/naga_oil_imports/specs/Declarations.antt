-- What import lines declare: the keys in order of their first declaration, each with its paths.
use Rattle.std.specs.Prelude.{ℕ, if◌then◌else◌, List, [], ◌∷◌, ◌++◌, map, String, string_bytes, Vec, bytes_eq}
use Rattle.std.specs.declared.alloc.Global.{Global}
use Rattle.indexmap.specs.IndexMap.{IndexMap}

abbrev pub Declared : Type 0
Declared = List (List ℕ × List (List ℕ))

-- the paths of a key
abbrev pub paths_of : Declared → List ℕ → List (List ℕ)
paths_of [] key = []
paths_of ((k, paths) ∷ more) key = if bytes_eq k key then paths else paths_of more key

-- one more path, appended at its key; a new key is appended last
abbrev pub with_path : Declared → (key path : List ℕ) → Declared
with_path [] key path = (key, path ∷ []) ∷ []
with_path ((k, paths) ∷ more) key path = if bytes_eq k key then (k, paths ++ path ∷ []) ∷ more else (k, paths) ∷ with_path more key path

-- the declarations in a map of the code
abbrev pub declared_of : {S : Type 0} → IndexMap (String Global) (Vec (String Global) Global) S → Declared
declared_of m = map (λ e. (string_bytes e.0, map string_bytes e.1.items)) m.entries
