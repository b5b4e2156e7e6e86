-- The order of lines, in which each name means its item: a line is after each item that it names, and before the next item
-- with that name; and the use of a constant is before each global with its name. Constants, globals, functions and entry
-- points each keep their order.
use Rattle.std.specs.Prelude.{ℕ, ◌+◌, min, max, zero, suc, Bool, true, ◌&&◌, nat_le, if◌then◌else◌, List, [], ◌∷◌, length, reverse, slice_get, Option, Some, None, bytes_eq}
use Rattle.naga_oil_mini_writer.specs.declared.order.Bounds.{Bounds}
use Rattle.naga_oil_mini_writer.specs.declared.order.Room.{Room}

-- the greatest u64
abbrev pub greatest_count : ℕ
greatest_count = 18446744073709551615

-- ---- items with equal names
-- the place of the first name that equals another, where the list begins at a place
abbrev pub place_from : ℕ → List ℕ → List (List ℕ) → ℕ
place_from i n [] = greatest_count
place_from i n (m ∷ ms) = if bytes_eq n m then i else place_from (i + 1) n ms

-- for each name the place of the next equal name, where the list begins at a place
abbrev pub next_places : ℕ → List (List ℕ) → List ℕ
next_places i [] = []
next_places i (n ∷ ns) = place_from (i + 1) n ns ∷ next_places (i + 1) ns

-- ---- what a line names
-- nothing
abbrev pub any : Bounds
any = record { least = 0; most = greatest_count }

abbrev pub anywhere : Room
anywhere = record { constants = any; globals = any; functions = any }

-- the item at a place, which is before the line, and the next one with its name, which is after it
abbrev pub name_used : List (List ℕ) → ℕ → Option (List ℕ)
name_used ns k = slice_get ns k

abbrev pub bounds_used : List (List ℕ) → ℕ → Bounds → Bounds
bounds_used ns k b = elim (slice_get (next_places 0 ns) k) [ None ↦ b | Some next ↦ record { least = max b.least (k + 1); most = min b.most next } ]

-- ---- lines from the last on
-- a line needs what the lines of its kind before it need
abbrev pub needing : (constants globals : ℕ) → List Room → List Room
needing c g [] = []
needing c g (l ∷ ls) =
    record l { constants = record l.constants { least = max c l.constants.least }; globals = record l.globals { least = max g l.globals.least } }
    ∷ needing (max c l.constants.least) (max g l.globals.least) ls

-- the last of these functions needs no more than the line may have before it
abbrev pub needs_at_most : Room → List Room → Bool
needs_at_most e [] = true
needs_at_most e (f ∷ fs) = nat_le f.constants.least e.constants.most && nat_le f.globals.least e.globals.most

-- an entry point may be after all of these functions
abbrev pub may_follow : Room → List Room → Bool
may_follow e fs = nat_le (length fs) e.functions.most && needs_at_most e fs

abbrev pub take_function : List Room → List Room → Option (Room × List Room × List Room)
take_function [] es = None
take_function (f ∷ fs) es = Some (f, fs, es)

-- the last line, and the functions and entry points before it
abbrev pub take_last : List Room → List Room → Option (Room × List Room × List Room)
take_last fs [] = take_function fs []
take_last fs (e ∷ es) = if may_follow e fs then Some (e, fs, es) else take_function fs (e ∷ es)

-- a line may be after this number of functions and at most these numbers of constants and globals
abbrev pub fits : Room → (functions constants globals : ℕ) → Bool
fits l f c g = ((nat_le l.functions.least f && nat_le f l.functions.most) && nat_le l.constants.least c) && nat_le l.globals.least g

-- functions and entry points have an order, by the number of lines and the largest numbers of constants and globals before
-- the last line
abbrev pub fit : (lines constants globals : ℕ) → List Room → List Room → Bool
fit zero c g fs es = true
fit (suc n) c g fs es = elim (take_last fs es) [
  | None ↦ true
  | Some t ↦ fits t.0 (length t.1) (min c t.0.constants.most) (min g t.0.globals.most) && fit n (min c t.0.constants.most) (min g t.0.globals.most) t.1 t.2
]

-- an entry point that may be last is placed last, else a function: a line that may be last may be so after others too
unfoldable pub has_order : List Room → List Room → Bool
has_order fs es = fit (length fs + length es) greatest_count greatest_count (reverse (needing 0 0 fs)) (reverse es)
