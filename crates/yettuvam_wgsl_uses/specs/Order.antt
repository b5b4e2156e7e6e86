-- What must be evaluated before the statement that uses it.
--
-- The text of a statement evaluates its parts from left to right. An expression whose time of evaluation matters may be part of
-- the text of a later line only if it is evaluated there in the order of the lines: what is pending is then a stack, from which
-- each line takes its operands, the last one first.
use Rattle.std.specs.Prelude.{ℕ, ◌-◌, ◌==◌, ◌&&◌, ◌||◌, not, if◌then◌else◌, Bool, true, false, List, [], ◌∷◌, ◌++◌, length, take, replicate, slice_get, slice_index_or, Option, Some, None}
use Rattle.std.specs.List.{list_any}
use Rattle.std.specs.Option.{option_map_or}
use Rattle.yettuvam_wgsl_counts.specs.Times.{is_once}
use Rattle.yettuvam_wgsl_lines.specs.Line.{LineValue, Lines, is_emitted}
use Rattle.yettuvam_wgsl_uses.specs.Facts.{fact_at, is_declared, is_repeated, is_short_line, is_unwritten}
use Rattle.yettuvam_wgsl_uses.specs.Marks.{mark}
use Rattle.yettuvam_wgsl_uses.specs.declared.facts.Fact.{Fact}
use Rattle.yettuvam_wgsl_uses.specs.declared.order.Order.{Order}
use Rattle.yettuvam_wgsl_uses.specs.declared.order.Pending.{Pending}

-- ---- the state

-- what is pending, in the order of the lines; what must be evaluated early; whether the line has taken something pending, and
-- whether something that must be evaluated even if its value isn't needed
pub record State : Type 0 where
  pub pending : List Pending
  pub early : List Bool
  pub has_taken : Bool
  pub is_firm : Bool

abbrev pub state_of : Order → State
state_of o = record {
  pending = o.pending.items;
  early = o.early.items;
  has_taken = o.has_taken;
  is_firm = o.is_firm;
}

-- ---- what is pending

abbrev pub pend : ℕ → Bool → Pending
pend h firm = record { place = h; is_firm = firm }

abbrev pub has_place : Pending → ℕ → Bool
has_place p h = p.place == h

abbrev pub last : List Pending → Option Pending
last ps = slice_get ps (length ps - 1)

abbrev pub front : List Pending → List Pending
front ps = take (length ps - 1) ps

abbrev pub is_last : List Pending → ℕ → Bool
is_last ps h = option_map_or (λ p. has_place p h) (last ps) false

abbrev pub is_firm_last : List Pending → ℕ → Bool
is_firm_last ps h = option_map_or (λ p. has_place p h && p.is_firm) (last ps) false

abbrev pub last_is_firm : List Pending → Bool
last_is_firm ps = (slice_index_or ps (length ps - 1) (pend 0 false)).is_firm

abbrev pub is_pending : List Pending → ℕ → Bool
is_pending ps h = list_any (λ p. has_place p h) ps

abbrev pub mark_pending : List Pending → List Bool → List Bool
mark_pending [] ms = ms
mark_pending (p ∷ ps) ms = mark_pending ps (mark p.place ms)

-- all that is pending is evaluated before the next statement
unfoldable pub settle : State → State
settle s = record s { pending = []; early = mark_pending s.pending s.early }

-- ---- the operands of a line

unfoldable pub pop : State → State
pop s = record s {
  pending = front s.pending;
  has_taken = true;
  is_firm = s.is_firm || last_is_firm s.pending;
}

-- an operand is part of the text of a line if it is the last that is pending
unfoldable pub take_operand : ℕ → State → State
take_operand h s = if is_last s.pending h then pop s else (if is_pending s.pending h then settle s else s)

-- the last operand first
abbrev pub take_operands : List ℕ → State → State
take_operands [] s = s
take_operands (h ∷ hs) s = take_operand h (take_operands hs s)

-- ---- a line

abbrev pub skips_by : Option ℕ → List Fact → List Pending → LineValue → Bool
skips_by None fs ps l = false
skips_by (Some right) fs ps l = is_short_line fs l && is_firm_last ps right

-- the right operand of `&&` or `||` must be evaluated whatever the left one is
abbrev pub skips : List Fact → List Pending → LineValue → Bool
skips fs ps l = skips_by (slice_get l.operands (length l.operands - 1)) fs ps l

-- nothing before a line is part of its text
abbrev pub begins : List Fact → List Pending → LineValue → Bool
begins fs ps l = not l.follows || is_repeated fs l || skips fs ps l

unfoldable pub begin : List Fact → LineValue → State → State
begin fs l s = record (if begins fs s.pending l then settle s else s) { has_taken = false; is_firm = false }

unfoldable pub push : ℕ → Bool → State → State
push h firm s = record s { pending = s.pending ++ pend h firm ∷ [] }

-- an emitted expression is pending if it depends on the time of its evaluation, or has something in its text that does
unfoldable pub end_emitted : List Fact → LineValue → ℕ → State → State
end_emitted fs l h s =
    if is_declared fs l h then settle s
    else (if not s.has_taken && not (fact_at fs h).nature.is_timed then s else push h (s.is_firm || (fact_at fs h).is_firm) s)

-- a result is pending if it is used once and has no name
unfoldable pub end_result : List Fact → LineValue → ℕ → State → State
end_result fs l h s = if l.is_named || not (is_once (fact_at fs h).times) then settle s else push h true s

abbrev pub end_by : Option ℕ → List Fact → LineValue → State → State
end_by None fs l s = settle s
end_by (Some h) fs l s = if is_emitted l then end_emitted fs l h s else end_result fs l h s

unfoldable pub end : List Fact → LineValue → State → State
end fs l s = end_by l.made fs l s

unfoldable pub step : List Fact → LineValue → State → State
step fs l s =
    let t = begin fs l s in
    if is_unwritten fs l then t else end fs l (take_operands l.operands t)

unfoldable pub run : List Fact → Lines → State → State
run fs [] s = s
run fs (l ∷ ls) s = run fs ls (step fs l s)

abbrev pub started : ℕ → State
started n = record { pending = []; early = replicate n false; has_taken = false; is_firm = false }

-- the expressions that must be evaluated before the statement that uses them
unfoldable pub early_of : List Fact → Lines → List Bool
early_of fs ls = (settle (run fs ls (started (length fs)))).early
