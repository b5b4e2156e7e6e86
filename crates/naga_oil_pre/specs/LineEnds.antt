-- The number of line ends in a text, and the paths that its imports declare.
use Rattle.std.specs.Prelude.{ℕ, ◌==◌, true, Result, Ok, Err, List, [], ◌∷◌, map, count_by}
use Rattle.std.specs.List.{flat_map}
use Rattle.naga_oil_words.specs.Bytes.{newline}
use Rattle.naga_oil_imports.specs.Leaves.{Leaf, SyntaxFault, import_leaves}
use Rattle.naga_oil_conditions.specs.Line.{source_lines}
use Rattle.naga_oil_conditions.specs.Fault.{Definitions}
use Rattle.naga_oil_pre.specs.Reading.{reading}
use Rattle.naga_oil_pre.specs.Preprocessed.{Status, blanked, shown, imported, noted, import_text, statuses}

-- the number of line ends in a text
abbrev pub line_ends : List ℕ → ℕ
line_ends text = count_by (λ b. b == newline) text

-- the paths of an import's leaves; none if the import has a fault
abbrev pub paths_among : Result (List Leaf) SyntaxFault → List (List ℕ)
paths_among (Ok leaves) = map (λ leaf. leaf.1) leaves
paths_among (Err f) = []

-- the paths that a line declares, by its status
abbrev pub paths_by : Status → List (List ℕ)
paths_by (blanked l) = []
paths_by (shown l) = []
paths_by (imported l taken) = paths_among (import_leaves (import_text (l ∷ taken)))
paths_by (noted f) = []

-- the paths that the active imports of a text declare, in order
unfoldable pub declared_paths : Definitions → List ℕ → List (List ℕ)
declared_paths defs text = flat_map paths_by (statuses defs true (reading defs (source_lines text)))
