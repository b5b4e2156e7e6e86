-- Groups of lines: a statement of the text, with the expressions that are emitted for it and the results that are part of it.
use Rattle.std.specs.Prelude.{ℕ, ◌&&◌, not, if◌then◌else◌, Bool, false, List, [], ◌∷◌, slice_get, Option, Some, None, unwrap_or}
use Rattle.yettuvam_wgsl_lines.specs.Line.{LineValue, Lines, is_emitted}

-- an expression is marked
abbrev pub is_set : List Bool → ℕ → Bool
is_set ms h = unwrap_or (slice_get ms h) false

-- the result of a line is part of the text of the lines after it
abbrev pub is_merged : List Bool → Option ℕ → Bool
is_merged ms None = false
is_merged ms (Some h) = is_set ms h

-- a line may be in the group of the next line: an emitted expression without a name, or a result that is merged
abbrev pub joins_next : List Bool → LineValue → Bool
joins_next ms l = if is_emitted l then not l.is_named else is_merged ms l.made

-- the group of a line, where the line before has the group g
abbrev pub group_by : ℕ → Bool → LineValue → ℕ
group_by g joins l = if joins && l.follows then g else l.number

-- the group of each line is the number of the group's first line
abbrev pub groups_from : List Bool → ℕ → Bool → Lines → List ℕ
groups_from ms g joins [] = []
groups_from ms g joins (l ∷ ls) = group_by g joins l ∷ groups_from ms (group_by g joins l) (joins_next ms l) ls

abbrev pub groups_of : List Bool → Lines → List ℕ
groups_of ms ls = groups_from ms 0 false ls
