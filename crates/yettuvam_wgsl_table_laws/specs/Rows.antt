-- Tests of a table: the rows of each rule begin at its place and stand together, and none is dead.
use Rattle.std.specs.Prelude.{Bool, true, false, ◌&&◌, if◌then◌else◌, List, [], ◌∷◌, drop, Option, Some, None}
use Rattle.yettuvam_wgsl_machine.specs.declared.symbol.Rule.{Rule}
use Rattle.yettuvam_wgsl_machine.specs.Machine.{Row, Table, place_of, same_rule}

abbrev pub is_none : {X : Type 0} → Option X → Bool
is_none None = true
is_none (Some _) = false

-- no row that fits every token stands before a row of the same rule
unfoldable pub no_row_is_dead : List Row → Bool
no_row_is_dead [] = true
no_row_is_dead (row ∷ []) = true
no_row_is_dead (row ∷ next ∷ rows) = if is_none row.1 && same_rule row.0 next.0 then false else no_row_is_dead (next ∷ rows)

-- the rest of some rows after those of a rule
abbrev pub after_rows : Rule → List Row → List Row
after_rows rule [] = []
after_rows rule (row ∷ rows) = if same_rule row.0 rule then after_rows rule rows else row ∷ rows

abbrev pub begins_with : Rule → List Row → Bool
begins_with rule [] = false
begins_with rule (row ∷ rows) = same_rule row.0 rule

abbrev pub is_nothing : List Row → Bool
is_nothing [] = true
is_nothing (row ∷ rows) = false

-- rows are those of some rules, in the order of the rules, and each rule has one
abbrev pub are_rows_of : List Rule → List Row → Bool
are_rows_of [] rows = is_nothing rows
are_rows_of (rule ∷ rules) rows = if begins_with rule rows then are_rows_of rules (after_rows rule rows) else false

abbrev pub begin_at_places : Table → List Rule → Bool
begin_at_places table [] = true
begin_at_places table (rule ∷ rules) = if begins_with rule (drop (place_of table.places rule) table.rows) then begin_at_places table rules else false

-- the rows of each rule stand together, and begin at its place
unfoldable pub is_in_order : List Rule → Table → Bool
is_in_order rules table = are_rows_of rules table.rows && begin_at_places table rules
