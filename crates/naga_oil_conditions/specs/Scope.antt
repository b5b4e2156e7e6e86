-- The levels of the open chains, the innermost first.
use Rattle.std.specs.Prelude.{Bool, true, false, if◌then◌else◌, List, [], ◌∷◌}
use Rattle.naga_oil_conditions.specs.declared.scope.ScopeLevel.{ScopeLevel}
use Rattle.naga_oil_conditions.specs.declared.scope.ScopeLevel.TheVariants.{Active, PreviouslyActive, NotActive}

-- the level of an arm, by whether the block around its chain is active, whether an earlier arm held
-- and whether this one holds
abbrev pub level : (active met holds : Bool) → ScopeLevel
level active met holds = if active then (if met then PreviouslyActive else (if holds then Active else NotActive)) else NotActive

abbrev pub is_active_level : ScopeLevel → Bool
is_active_level Active = true
is_active_level PreviouslyActive = false
is_active_level NotActive = false

-- whether the arm or an earlier one of its chain held
abbrev pub has_met : ScopeLevel → Bool
has_met Active = true
has_met PreviouslyActive = true
has_met NotActive = false

-- whether a line at these levels is active
abbrev pub is_active : List ScopeLevel → Bool
is_active [] = true
is_active (l ∷ outer) = is_active_level l

abbrev pub is_open : List ScopeLevel → Bool
is_open [] = false
is_open (l ∷ outer) = true

-- the levels in the next arm of the innermost chain, and after that chain
abbrev pub next_arm : List ScopeLevel → Bool → List ScopeLevel
next_arm [] holds = []
next_arm (previous ∷ outer) holds = level (is_active outer) (has_met previous) holds ∷ outer

abbrev pub outer_levels : List ScopeLevel → List ScopeLevel
outer_levels [] = []
outer_levels (l ∷ outer) = outer
