-- Tables of names: each row has a name and a value.
use Rattle.std.specs.Prelude.{ℕ, Bool, true, List, [], ◌∷◌, map, ◌&&◌, Option, nat_eq}
use Rattle.std.specs.Cmp.Lexicographic.{pointwise, slice_cmp}
use Rattle.std.specs.Ordering.{nat_cmp, is_lt}
use Rattle.std.specs.declared.cmp.Ordering.{Ordering}
use Rattle.std.specs.Map.{lookup}
use denote.Ref.{Bor}

-- the bytes of a name
abbrev pub Name : Type 0
Name = List ℕ

-- the rows of a table
abbrev pub rows : {V : Type 0} → List (Bor Name × V) → List (Name × V)
rows es = map (λ e. (e.0.now, e.1)) es

-- the rows of a table of codes
abbrev pub named : List (ℕ × Bor Name) → List (ℕ × Name)
named es = map (λ e. (e.0, e.1.now)) es

-- the value of the first row with a name
abbrev pub meaning : {V : Type 0} → List (Name × V) → Name → Option V
meaning es n = lookup (pointwise nat_eq n) es

-- ---- tables in the order of their keys

-- a key comes before that of the first row
abbrev pub comes_before : {K V : Type 0} → (K → K → Ordering) → K → List (K × V) → Bool
comes_before cmp k [] = true
comes_before cmp k (e ∷ es) = is_lt (cmp k e.0)

-- each row's key comes before that of the next
abbrev pub is_ordered_by : {K V : Type 0} → (K → K → Ordering) → List (K × V) → Bool
is_ordered_by cmp [] = true
is_ordered_by cmp (e ∷ es) = comes_before cmp e.0 es && is_ordered_by cmp es

-- each row's name comes before that of the next in the order of their bytes
abbrev pub is_ordered : {V : Type 0} → List (Name × V) → Bool
is_ordered es = is_ordered_by (slice_cmp nat_cmp) es
