-- The copy of a function: laws of the values of copying functions.
use Rattle.std.specs.Prelude.{ℕ, ◌≡◌, ◌<◌, ◌≤◌, ◌+◌, ◌⊎◌, Bool, true, List, [], ◌∷◌, ◌++◌, length, map, take, reverse, nat_eq, option_to_list, slice_get, Some, is_some}
use Rattle.std.specs.List.{flat_map}
use Rattle.std.specs.Map.{lookup, keys_of}
use Rattle.std.specs.Option.{option_eq, option_flatten}
use Rattle.naga_oil_ir.specs.Kinds.{first_operation_kind}
use Rattle.naga_oil_ir.specs.Parts.{Parts}
use Rattle.naga_oil_form.specs.BodyForm.{callee, places, MayStand}
use Rattle.naga_oil_form.specs.Links.{has, added, trail}
use Rattle.naga_oil_ir.specs.ModuleValue.{FunctionValue, expression_values}
use Rattle.naga_oil_ir.specs.declared.module.Function.{Function}
use Rattle.naga_oil_ir.specs.declared.span.Span.{Span}
use Rattle.naga_oil_ir.specs.declared.tokens.Token.{Token}
use Rattle.naga_oil_ir.specs.declared.tokens.Token.TheVariants.{Use, Give, GiveCall, Emitted}
use Rattle.naga_oil_rename.specs.Renames.{Renames}
use Rattle.naga_oil_derive.specs.Copies.{Values, Table, place_under, copied, value_links}
use Rattle.naga_oil_derive.specs.CopiedFunction.{copy_expressions, copy_function}
use Rattle.naga_oil_derive.specs.DerivedFunctions.{kinds_in, named_in, initialisers_in}
use Rattle.naga_oil_derive.specs.Functions.{Copies, begun, order_of}
use Rattle.naga_oil_walk.specs.Walk.{externals, others, walked}

-- external expressions and results have no operands
abbrev pub StandAlone : Values → Type 0
StandAlone es =
    (k : ℕ) (e : Parts × Span) → slice_get es k ≡ Some e → e.0.kind < first_operation_kind →
    flat_map option_to_list e.0.operands ≡ []

-- a function passes the test of form, apart from the targets of its calls
pub record MayBeCopied (v : FunctionValue) : Type 0 where
  pub form :
      MayStand (kinds_in v) (map callee (named_in v)) (value_links v.expressions)
      (initialisers_in v) v.body
  pub alone : StandAlone v.expressions

-- the place of each expression's copy
abbrev pub table_of : Renames → FunctionValue → Table
table_of r v = (copy_expressions r v.expressions (order_of v) (length (begun v))).table

-- LAW: copy_function of a function is a copy of it
abbrev pub CopyLaw : Type 0
CopyLaw = (r : Renames) (v : FunctionValue) → MayBeCopied v → Copies r v (copy_function r v)

-- LAW: its expressions stand at the places that the table gives
abbrev pub TableLaw : Type 0
TableLaw =
    (r : Renames) (v : FunctionValue) → MayBeCopied v →
    (c : Copies r v (copy_function r v)) × (c.table ≡ table_of r v)

-- LAW: in each function external expressions and results have no operands
abbrev pub AloneLaw : Type 0
AloneLaw = (f : Function) → StandAlone (expression_values f.expressions)

-- ---- which expressions are copied

-- what a part of a body uses, results in or emits
abbrev pub spoken : Token → List ℕ
spoken (Use h) = h ∷ []
spoken (Give h) = h ∷ []
spoken (GiveCall f h) = h ∷ []
spoken (Emitted r) = places r
spoken _ = []

-- what initialisers and the parts of the body reach
abbrev pub reached_in : FunctionValue → List ℕ
reached_in v =
    flat_map (trail (value_links v.expressions)) (initialisers_in v ++ flat_map spoken v.body)

-- the copy at h, which reads as e, is that of an expression that is reached
pub record IsOfReached (r : Renames) (v : FunctionValue) (h : ℕ) (e : Parts) : Type 0 where
  pub source : ℕ
  pub entry : Parts × Span
  pub reached : has (reached_in v) source ≡ true
  pub at_source : slice_get v.expressions source ≡ Some entry
  pub place : place_under (table_of r v) source ≡ h
  pub reads : e ≡ copied r (table_of r v) entry.0

-- which expressions have copies
pub record OnlyReached (r : Renames) (v : FunctionValue) : Type 0 where
  -- an expression has a copy exactly if it is reached
  pub went :
      (k : ℕ) → is_some (option_flatten (slice_get (table_of r v) k)) ≡ has (reached_in v) k
  -- each copy is of a reached expression
  pub only :
      (h : ℕ) (e : Parts × Span) → slice_get (copy_function r v).expressions h ≡ Some e →
      IsOfReached r v h e.0

-- LAW: exactly the reached expressions are copied
abbrev pub ReachedLaw : Type 0
ReachedLaw = (r : Renames) (v : FunctionValue) → MayBeCopied v → OnlyReached r v

-- ---- emitted ranges

-- the part of a function's body at i emits a range
abbrev pub EmitsAt : FunctionValue → ℕ → ℕ × ℕ → Type 0
EmitsAt v i p = slice_get v.body i ≡ Some (Emitted p)

-- the expressions copied before the places of a range p that the part of the body at i emits
abbrev pub put_before : FunctionValue → ℕ → ℕ × ℕ → List ℕ
put_before v i p =
    let ls = value_links v.expressions in
    added (walked (kinds_in v) ls (initialisers_in v) (take i v.body))
    (externals (kinds_in v) (flat_map (trail ls) (places p)))

-- the number of copies that some places have
abbrev pub copies_of : Renames → FunctionValue → List ℕ → ℕ
copies_of r v xs = length (added [] (map (place_under (table_of r v)) xs))

-- a range that begins after n copies, and covers the copies of its places that no initialiser reaches
abbrev pub range_from : FunctionValue → ℕ × ℕ → ℕ → ℕ × ℕ
range_from v p n = (n, n + length (others (begun v) (places p)))

-- of the ranges that begin at one place the one at j counts: it isn't empty, or all are empty and it is the first
abbrev pub Counts : FunctionValue → ℕ → ℕ × ℕ → Type 0
Counts v j q =
    (q.0 < q.1) ⊎
    ((i : ℕ) (p : ℕ × ℕ) → EmitsAt v i p → p.0 ≡ q.0 → (p.1 ≤ p.0) × (j ≤ i))

-- the range q at j counts, and begins at an expression
pub record LeadsAt (v : FunctionValue) (j : ℕ) (q : ℕ × ℕ) : Type 0 where
  pub emits : EmitsAt v j q
  pub counts : Counts v j q
  pub within : q.0 < length v.expressions

-- the emitted ranges of a copy w of v
pub record RangesStand (r : Renames) (v w : FunctionValue) : Type 0 where
  -- each range lies within the copy's expressions
  pub within :
      (i : ℕ) (q : ℕ × ℕ) → EmitsAt w i q → (q.0 ≤ q.1) × (q.1 ≤ length w.expressions)
  -- a range that covers nothing, apart from what initialisers reach, is copied as (n, n)
  pub nothing :
      (i : ℕ) (p : ℕ × ℕ) → EmitsAt v i p → others (begun v) (places p) ≡ [] →
      (n : ℕ) × EmitsAt w i (n, n)
  -- a range that counts begins after the copies of the expressions before it in the order
  pub begins :
      (j : ℕ) (q : ℕ × ℕ) → LeadsAt v j q →
      EmitsAt w j (range_from v q (copies_of r v (put_before v j q)))
  -- an empty range stands where the one that counts begins
  pub empty :
      (i j : ℕ) (p q : ℕ × ℕ) → EmitsAt v i p → p.1 ≤ p.0 → LeadsAt v j q → p.0 ≡ q.0 →
      let n = copies_of r v (put_before v j q) in
      EmitsAt w i (n, n)
  -- an empty range that begins after the last expression stands after the last copy
  pub following :
      (i : ℕ) (p : ℕ × ℕ) → EmitsAt v i p → length v.expressions ≤ p.0 →
      let n = length w.expressions in
      EmitsAt w i (n, n)

-- LAW: what emitted ranges map to
abbrev pub RangeLaw : Type 0
RangeLaw =
    (r : Renames) (v : FunctionValue) → MayBeCopied v → RangesStand r v (copy_function r v)

-- ---- names

-- whether the copy of the expression at k is at h
abbrev pub is_copied_to : Table → ℕ → ℕ → Bool
is_copied_to t h k = option_eq nat_eq (Some h) (option_flatten (slice_get t k))

-- the copies of what names name, in order
abbrev pub named_copies : Table → List (ℕ × List ℕ) → List ℕ
named_copies t ns = flat_map (λ e. option_to_list (option_flatten (slice_get t e.0))) ns

-- the names of a copy
pub record NamesStand (r : Renames) (v : FunctionValue) : Type 0 where
  -- a copy with more than one name keeps the last
  pub last :
      (h : ℕ) →
      lookup (nat_eq h) (copy_function r v).named_expressions ≡
      lookup (is_copied_to (table_of r v) h) (reverse v.named_expressions)
  -- at the place of the first
  pub first :
      keys_of (copy_function r v).named_expressions ≡
      added [] (named_copies (table_of r v) v.named_expressions)

-- LAW: which names a copy has
abbrev pub NameLaw : Type 0
NameLaw = (r : Renames) (v : FunctionValue) → NamesStand r v
