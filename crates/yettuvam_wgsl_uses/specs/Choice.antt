-- The `let`s, and the results that are part of the next statement.
use Rattle.std.specs.Prelude.{ℕ, ◌&&◌, ◌||◌, not, if◌then◌else◌, Bool, false, List, [], ◌∷◌, length, replicate, Option, Some, None}
use Rattle.yettuvam_wgsl_counts.specs.Times.{is_once}
use Rattle.yettuvam_wgsl_lines.specs.Groups.{is_set}
use Rattle.yettuvam_wgsl_lines.specs.Line.{LineValue, Lines, is_emitted}
use Rattle.yettuvam_wgsl_uses.specs.Facts.{fact_at, is_declared, may_be_let}
use Rattle.yettuvam_wgsl_uses.specs.Marks.{mark_all, mark_any}
use Rattle.yettuvam_wgsl_uses.specs.Texts.{emitted_by}
use Rattle.yettuvam_wgsl_uses.specs.declared.facts.Fact.{Fact}

-- ---- places

abbrev pub passes_by : Option ℕ → List Fact → List Bool → LineValue → Bool
passes_by None fs early l = false
passes_by (Some h) fs early l = not l.is_named && (fact_at fs h).nature.is_place && is_set early h

-- a place without a name is no `let`, so its operands must be evaluated early in its place
abbrev pub passes_on : List Fact → List Bool → LineValue → Bool
passes_on fs early l = passes_by (emitted_by l) fs early l

abbrev pub spread : List Fact → LineValue → List Bool → List Bool
spread fs l early = if passes_on fs early l then mark_all l.operands early else early

-- the last line first
abbrev pub spread_all : List Fact → Lines → List Bool → List Bool
spread_all fs [] early = early
spread_all fs (l ∷ ls) early = spread fs l (spread_all fs ls early)

-- ---- `let`s

abbrev pub is_let : List Fact → List Bool → LineValue → ℕ → Bool
is_let fs early l h = is_declared fs l h || (may_be_let (fact_at fs h) && is_set early h)

abbrev pub let_if : Option ℕ → List Fact → List Bool → LineValue → Option ℕ
let_if None fs early l = None
let_if (Some h) fs early l = if is_let fs early l h then Some h else None

abbrev pub let_by : List Fact → List Bool → LineValue → Option ℕ
let_by fs early l = let_if (emitted_by l) fs early l

abbrev pub mark_lets : List Fact → List Bool → Lines → List Bool → List Bool
mark_lets fs early [] ms = ms
mark_lets fs early (l ∷ ls) ms = mark_lets fs early ls (mark_any (let_by fs early l) ms)

-- the expressions that are declared where they are emitted
abbrev pub lets_of : List Fact → List Bool → Lines → List Bool
lets_of fs early ls = mark_lets fs early ls (replicate (length fs) false)

-- ---- results

-- a result is part of a later line if it is used once, has no name, and needn't be evaluated early
abbrev pub is_part : List Fact → List Bool → LineValue → ℕ → Bool
is_part fs early l h =
    not (is_emitted l) && not l.is_named && is_once (fact_at fs h).times && not (is_set early h)

abbrev pub part_if : Option ℕ → List Fact → List Bool → LineValue → Option ℕ
part_if None fs early l = None
part_if (Some h) fs early l = if is_part fs early l h then Some h else None

abbrev pub part_by : List Fact → List Bool → LineValue → Option ℕ
part_by fs early l = part_if l.made fs early l

abbrev pub mark_parts : List Fact → List Bool → Lines → List Bool → List Bool
mark_parts fs early [] ms = ms
mark_parts fs early (l ∷ ls) ms = mark_parts fs early ls (mark_any (part_by fs early l) ms)

-- the results that are part of a later line
abbrev pub merged_of : List Fact → List Bool → Lines → List Bool
merged_of fs early ls = mark_parts fs early ls (replicate (length fs) false)
