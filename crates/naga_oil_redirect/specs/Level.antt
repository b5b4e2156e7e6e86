-- The levels of functions, the order by levels, and cycles of calls, given the places of each function's callees.
use Rattle.std.specs.Prelude.{◌≡◌, ℕ, zero, suc, ◌+◌, ◌<◌, max, Bool, true, false, List, [], ◌∷◌, map, length, All, Option, Some, None, option_map, is_none, slice_get, ◌==◌}
use Rattle.std.specs.Option.{option_flatten}
use Rattle.std.specs.List.{flat_map, filter, enumerate_from, range_with_len}
use Rattle.naga_oil_form.specs.Links.{Links, linked, has}

-- each function calls functions that are there
abbrev pub StayWithin : Links → Type 0
StayWithin calls = (k : ℕ) → All (λ c. c < length calls) (linked calls k)

-- 0 of nothing, else 1 more than the greatest level; None if one level is None
abbrev pub above : List (Option ℕ) → Option ℕ
above [] = Some 0
above (None ∷ levels) = None
above (Some l ∷ levels) = option_map (max (l + 1)) (above levels)

-- the level of a function, if it is below n: 0 without calls, else 1 more than the greatest level of a callee
unfoldable pub level_below : ℕ → Links → ℕ → Option ℕ
level_below zero calls k = None
level_below (suc n) calls k = above (map (level_below n calls) (linked calls k))

-- the level of a function: each is below the number of functions
abbrev pub level : Links → ℕ → Option ℕ
level calls k = level_below (length calls) calls k

abbrev pub levels : Links → List (Option ℕ)
levels calls = map (level calls) (range_with_len 0 (length calls))

abbrev pub is_level : ℕ → Option ℕ → Bool
is_level l None = false
is_level l (Some m) = m == l

-- the level at a place of a list, if there is one
abbrev pub known : List (Option ℕ) → ℕ → Option ℕ
known levels k = option_flatten (slice_get levels k)

-- the functions whose levels pass a test, by place
abbrev pub passing : (Option ℕ → Bool) → List (Option ℕ) → List ℕ
passing p levels = map (λ e. e.0) (filter (λ e. p e.1) (enumerate_from 0 levels))

-- the functions without a level, by place
abbrev pub without_level : List (Option ℕ) → List ℕ
without_level levels = passing is_none levels

-- the functions by level, then by place
abbrev pub by_level : List (Option ℕ) → List ℕ
by_level levels = flat_map (λ l. passing (is_level l) levels) (range_with_len 0 (length levels))

-- one function leads to another by one or more calls
pub data Leads (calls : Links) : ℕ → ℕ → Type 0 where
  Calls : {a b : ℕ} → has (linked calls a) b ≡ true → Leads calls a b
  Through : {a b c : ℕ} → has (linked calls a) b ≡ true → Leads calls b c → Leads calls a c

-- the calls have a cycle
abbrev pub HasCycle : Links → Type 0
HasCycle calls = (k : ℕ) × Leads calls k k
