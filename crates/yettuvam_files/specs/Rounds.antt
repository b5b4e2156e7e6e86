-- An order of items in which each stands after those that it uses.
use Rattle.std.specs.Prelude.{◌≡◌, ℕ, ◌-◌, ◌==◌, ◌&&◌, not, if◌then◌else◌, Bool, true, false, List, [], ◌∷◌, ◌++◌, length, map, set, slice_index_or, position, Option, Some, None, Result, Ok, Err, Vec}
use Rattle.std.specs.List.{list_all}
use Rattle.std.specs.declared.alloc.Global.{Global}
use Rattle.yettuvam_files.specs.declared.rounds.Placed.{Placed}
use Rattle.yettuvam_files.specs.declared.rounds.Unordered.{Unordered}
use Rattle.yettuvam_files.specs.declared.rounds.Unordered.TheVariants as code

-- the items that each item uses, by their places
abbrev pub Uses : Type 0
Uses = List (List ℕ)

abbrev pub uses_view : List (Vec ℕ Global) → Uses
uses_view us = map (λ v. v.items) us

-- a mark for each item that has its place, and the order so far
pub record State : Type 0 where
  pub marks : List Bool
  pub order : List ℕ

abbrev pub state_of : Placed → State
state_of p = record { marks = p.marks.items; order = p.order.items }

-- whether an item has its place; what doesn't exist has
abbrev pub is_placed : List Bool → ℕ → Bool
is_placed marks item = slice_index_or marks item true

-- whether an item has no place yet, and all that it uses have one
abbrev pub is_ready : List Bool → List ℕ → ℕ → Bool
is_ready marks uses item = not (is_placed marks item) && list_all (is_placed marks) uses

abbrev pub with_mark : List Bool → ℕ → List Bool
with_mark marks item = set marks item true

abbrev pub with_item : ℕ → State → State
with_item item s = record { marks = with_mark s.marks item; order = s.order ++ item ∷ [] }

-- an item has its place once all that it uses have
unfoldable pub place : List ℕ → ℕ → State → State
place uses item s = if is_ready s.marks uses item then with_item item s else s

-- the items of a count, one after the other
unfoldable pub round : ℕ → Uses → State → State
round n [] s = s
round n (u ∷ us) s = round n us (place u (n - length (u ∷ us)) s)

-- as many rounds as there are turns, fewer if all have their places
unfoldable pub rounds : Uses → (turns : Uses) → State → State
rounds us [] s = s
rounds us (t ∷ ts) s = if length s.order == length us then s else rounds us ts (round (length us) us s)

-- ---- cycles

-- the first item without a place, or another
abbrev pub first_unplaced : List Bool → List ℕ → ℕ → ℕ
first_unplaced marks [] other = other
first_unplaced marks (u ∷ us) other = if not (is_placed marks u) then u else first_unplaced marks us other

abbrev pub unplaced_by : List Bool → Option (List ℕ) → ℕ → ℕ
unplaced_by marks None item = item
unplaced_by marks (Some us) item = first_unplaced marks us item

-- the first item without a place that an item uses
abbrev pub next_unplaced : List Bool → Uses → ℕ → ℕ
next_unplaced marks us item = first_unplaced marks (slice_index_or us item []) item

-- the item after as many steps as there are turns
abbrev pub reached : List Bool → Uses → (turns : Uses) → ℕ → ℕ
reached marks us [] item = item
reached marks us (t ∷ ts) item = reached marks us ts (next_unplaced marks us item)

-- items and those from one on, up to the one before an end
abbrev pub members : List Bool → Uses → (turns : Uses) → (item end : ℕ) → List ℕ → List ℕ
members marks us [] item end out = out
members marks us (t ∷ ts) item end out = if item == end then out else members marks us ts (next_unplaced marks us item) end (out ++ item ∷ [])

abbrev pub cycle_from : List Bool → Uses → ℕ → List ℕ
cycle_from marks us item = members marks us us (next_unplaced marks us item) item (item ∷ [])

-- ---- the order

abbrev pub no_marks : Uses → List Bool
no_marks us = map (λ u. false) us

abbrev pub first_open : List Bool → Option ℕ
first_open marks = position (λ mark. not mark) marks

abbrev pub or_cycle : Uses → State → Option ℕ → Result (List ℕ) (List ℕ)
or_cycle us s None = Ok s.order
or_cycle us s (Some first) = Err (cycle_from s.marks us (reached s.marks us us first))

-- the order, if all have their places, or else the members of a cycle
abbrev pub order_or_cycle : Uses → State → Result (List ℕ) (List ℕ)
order_or_cycle us s = or_cycle us s (first_open s.marks)

-- items in an order, each after those that it uses, or else a cycle
abbrev pub ordered : Uses → Result (List ℕ) (List ℕ)
ordered us = order_or_cycle us (rounds us us (record { marks = no_marks us; order = [] }))

-- what a function returned is this order or this cycle, unless memory ran out
abbrev pub Sorts : Result (Vec ℕ Global) Unordered → Result (List ℕ) (List ℕ) → Type 0
Sorts (Ok v) expected = expected ≡ Ok v.items
Sorts (Err (code.Cycle v)) expected = expected ≡ Err v.items
Sorts (Err code.Memory) expected = Unit {0}
