-- The names that a text records: those of its conditions and its `#` names, from every line,
-- whichever arms are active.
use Rattle.std.specs.Prelude.{◌≡◌, ℕ, Bool, true, List, [], ◌∷◌, ◌++◌}
use Rattle.std.specs.List.{flat_map}
use Rattle.naga_oil_words.specs.Texts.{is_among}
use Rattle.naga_oil_conditions.specs.Line.{Line, source_lines}
use Rattle.naga_oil_conditions.specs.Kind.{LineKind, version, condition, endif, imports, import_path, define, other, unversioned_kind_of, Condition, defined, undefined, compares, otherwise}
use Rattle.naga_oil_conditions.specs.Fault.{Definitions}
use Rattle.naga_oil_conditions.specs.Replaced.{hash_names, name_of, pieces}

-- the name that a condition refers to; a plain else has none
abbrev pub condition_names : Condition → List (List ℕ)
condition_names (defined name) = name ∷ []
condition_names (undefined name) = name ∷ []
condition_names (compares name operator value) = name ∷ []
condition_names otherwise = []

-- the `#` names of a line and of its covered line
abbrev pub text_names : Line → List (List ℕ)
text_names l = hash_names l.text ++ hash_names l.covered

-- the names that a line of this kind records
abbrev pub kind_names : LineKind → Line → List (List ℕ)
kind_names (condition is_else c) l = condition_names c
kind_names endif l = []
kind_names imports l = []
kind_names (import_path name) l = []
kind_names (define name value) l = []
kind_names (version known) l = text_names l
kind_names other l = text_names l

-- the names that a line records; versions aren't read
abbrev pub line_names : Line → List (List ℕ)
line_names l = kind_names (unversioned_kind_of l.covered) l

-- the `#` names of characters
unfoldable pub names_from : List ℕ → List (List ℕ)
names_from cs = flat_map name_of (pieces 0 cs)

-- the names that lines record, including lines that an import takes
unfoldable pub names_of : List Line → List (List ℕ)
names_of lines = flat_map line_names lines

-- whether a text records a name
abbrev pub is_recorded : (text name : List ℕ) → Bool
is_recorded text name = is_among (names_of (source_lines text)) name

-- two definitions agree on these names: a name has the same value under both, or none under either
abbrev pub AgreeOn : (List ℕ → Bool) → (d e : Definitions) → Type 0
AgreeOn is_name d e = (name : List ℕ) → is_name name ≡ true → d name ≡ e name
