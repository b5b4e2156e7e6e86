-- Copies of a function's expressions, and the place of each.
use Rattle.std.specs.Prelude.{ℕ, ◌≡◌, ◌<◌, ◌≤◌, ◌+◌, ◌-◌, ◌⊎◌, true, false, Bool, nat_lt, is_some, if◌then◌else◌, List, [], ◌∷◌, ◌++◌, length, map, take, slice_get, slice_set, Option, Some, None, option_to_list, unwrap_or}
use Rattle.std.specs.List.{flat_map}
use Rattle.std.specs.Option.{option_flatten}
use Rattle.naga_oil_ir.specs.Parts.{Parts}
use Rattle.naga_oil_form.specs.Links.{Links, has, added}
use Rattle.naga_oil_form.specs.BodyForm.{run}
use Rattle.naga_oil_ir.specs.declared.span.Span.{Span}
use Rattle.naga_oil_rename.specs.Renames.{Renames, rename}
use Rattle.naga_oil_walk.specs.Walk.{Notes}

-- expressions with their spans
abbrev pub Values : Type 0
Values = List (Parts × Span)

-- the place of each expression's copy, if it has one
abbrev pub Table : Type 0
Table = List (Option ℕ)

-- the place of a copy, or the expression's own place if it has no copy
abbrev pub place_under : Table → ℕ → ℕ
place_under t k = unwrap_or (option_flatten (slice_get t k)) k

-- a renaming: of items by r, of expressions by a table of the places of their copies, and of emitted ranges by f
abbrev pub under_table : Renames → Table → (ℕ × ℕ → ℕ × ℕ) → Renames
under_table r t f = record r { expression = place_under t; range = f }

-- an expression as its copy reads
abbrev pub copied : Renames → Table → Parts → Parts
copied r t p = rename (under_table r t r.range) p

-- t has, for each expression in the order o, the place in v of its copy; s is what initialisers reach
pub record AreCopies (r : Renames) (es : Values) (s o : List ℕ) (t : Table) (v : Values) : Type 0 where
  -- an expression has a copy exactly if it is in the order
  pub went : (k : ℕ) → is_some (option_flatten (slice_get t k)) ≡ has o k
  -- a copy reads as its source with its operands' copies
  pub reads :
      (k : ℕ) (a : Parts × Span) → has o k ≡ true → slice_get es k ≡ Some a →
      (e : Parts × Span) × (slice_get v (place_under t k) ≡ Some e) × (e.0 ≡ copied r t a.0)
  -- a copy's span is that of the first expression that it copies
  pub spans :
      (i k : ℕ) (a e : Parts × Span) → slice_get o i ≡ Some k →
      has (map (place_under t) (take i o)) (place_under t k) ≡ false → slice_get es k ≡ Some a →
      slice_get v (place_under t k) ≡ Some e → e.1 ≡ r.span a.1
  -- copies stand in the order of what they copy first
  pub order : added [] (map (place_under t) o) ≡ run 0 (length v)
  -- two expressions share a copy only if initialisers reach both
  pub shared :
      (j k : ℕ) → has o j ≡ true → has o k ≡ true → place_under t j ≡ place_under t k →
      (j ≡ k) ⊎ ((has s j ≡ true) × (has s k ≡ true))
  -- two expressions that initialisers reach share a copy if their copies are equal
  pub merged :
      (j k : ℕ) (a b : Parts × Span) → has s j ≡ true → has s k ≡ true → slice_get es j ≡ Some a →
      slice_get es k ≡ Some b → copied r t a.0 ≡ copied r t b.0 → place_under t j ≡ place_under t k

-- ---- one more copy

-- no value before n is equal
abbrev pub LacksBefore : ℕ → Values → Parts → Type 0
LacksBefore n v p = (k : ℕ) (e : Parts × Span) → k < n → slice_get v k ≡ Some e → e.0 ≡ p → ⊥

-- the copy c is at h: if copies are unique, an equal one is shared; otherwise c is appended
abbrev pub IsPut : Bool → Values → Parts × Span → ℕ → Values → Type 0
IsPut unique old c h new =
    ((unique ≡ true) ×
    ((e : Parts × Span) × (slice_get old h ≡ Some e) × (e.0 ≡ c.0)) × (new ≡ old)) ⊎
    ((unique ≡ true → LacksBefore (length old) old c.0) × (h ≡ length old) × (new ≡ old ++ c ∷ []))

-- the expression at a place is copied
abbrev pub IsStep : Renames → Values → Bool → ℕ → Table → Values → Table → Values → Type 0
IsStep r es unique k t v u w =
    (a : Parts × Span) → slice_get es k ≡ Some a →
    (h : ℕ) × (u ≡ slice_set t k (Some h)) × IsPut unique v (copied r t a.0, r.span a.1) h w

-- no two values are equal
abbrev pub AreApart : Values → Type 0
AreApart v = (h i : ℕ) (e f : Parts × Span) → slice_get v h ≡ Some e → slice_get v i ≡ Some f → e.0 ≡ f.0 → h ≡ i

-- the operands of each expression that are there
abbrev pub value_links : Values → Links
value_links es = map (λ e. flat_map option_to_list e.0.operands) es

-- the first i of the places o are copied: if copies are unique, all with unique copies; otherwise those after the first b, which
-- t0 maps to m copies, each with a copy of its own
pub record Placed
    (r : Renames) (es : Values) (o : List ℕ) (b i : ℕ) (unique : Bool) (t0 : Table) (m : ℕ)
    (t : Table) (v : Values) : Type 0 where
  pub copies : AreCopies r es (take (if unique then i else b) o) (take i o) t v
  pub apart : unique ≡ true → AreApart v
  pub follow : unique ≡ false → map (place_under t) (take i o) ≡ map (place_under t0) (take b o) ++ run m (i - b)
  pub count : unique ≡ false → length v ≡ m + (i - b)

-- ---- emitted ranges

-- where the place b of an order is among the copies, if the order's first n places have m copies
abbrev pub brought : ℕ → ℕ → ℕ → ℕ
brought n m b = m + (b - n)

-- the range of copies for the note on an emitted range; if none was noted, the empty range after the last of c copies
abbrev pub brought_range : ℕ → ℕ → ℕ → ℕ × ℕ → Option (ℕ × ℕ) → ℕ × ℕ
brought_range n m c r None = (c, c)
brought_range n m c r (Some p) = (brought n m p.0, if nat_lt r.0 r.1 then brought n m p.1 else brought n m p.0)

abbrev pub range_under : Notes → ℕ → ℕ → ℕ → ℕ × ℕ → ℕ × ℕ
range_under es n m c r = brought_range n m c r (option_flatten (slice_get es r.0))

-- the noted range lies among c copies
abbrev pub FitIn : ℕ → ℕ → ℕ → Notes → Type 0
FitIn n m c es = (k b e : ℕ) → option_flatten (slice_get es k) ≡ Some (b, e) → (n ≤ b) × (b ≤ e) × (m + (e - n) ≤ c)
