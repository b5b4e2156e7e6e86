-- An order of items in which each stands after those that it names.
use Rattle.std.specs.Prelude.{ℕ, zero, suc, ◌-◌, Bool, true, false, if◌then◌else◌, List, [], ◌∷◌, ◌++◌, length, map, take, set, slice_index_or, Result, Ok, Err, Vec}
use Rattle.std.specs.declared.alloc.Global.{Global}
use Rattle.yettuvam_wgsl_words.specs.declared.token.Span.{Span}
use Rattle.yettuvam_wgsl_scope.specs.Refused.{Outcome, ◌>>=◌, done, fault_after}
use Rattle.yettuvam_wgsl_scope.specs.declared.refusal.Fault.{Fault}
use Rattle.yettuvam_wgsl_scope.specs.declared.refusal.Reason.TheVariants as reason
use Rattle.yettuvam_wgsl_scope.specs.declared.order.Mark.{Mark}
use Rattle.yettuvam_wgsl_scope.specs.declared.order.Mark.TheVariants as mark
use Rattle.yettuvam_wgsl_scope.specs.declared.order.Visit.{Visit as VisitOfCode}
use Rattle.yettuvam_wgsl_scope.specs.declared.order.Sorter.{Sorter}
use Rattle.yettuvam_wgsl_scope.specs.declared.order.Order.{Order as OrderOfCode}

-- an item that is being sorted, and the items that it names of which none is sorted yet
abbrev pub Visit : Type 0
Visit = ℕ × List ℕ

abbrev pub visit_view : VisitOfCode → Visit
visit_view v = (v.item, v.uses.now)

abbrev pub uses_view : List (Vec ℕ Global) → List (List ℕ)
uses_view uses = map (λ v. v.items) uses

pub record State : Type 0 where
  pub spans : List Span
  pub uses : List (List ℕ)
  pub marks : List Mark
  pub stack : List Visit
  pub order : List ℕ

abbrev pub state_of : Sorter → State
state_of s = record { spans = s.spans.now; uses = uses_view s.uses.now; marks = s.marks.items; stack = map visit_view s.stack.items; order = s.order.items }

abbrev pub Done : Type 0
Done = Outcome State (Unit {0})

abbrev pub mark_at : List Mark → ℕ → Mark
mark_at marks item = slice_index_or marks item mark.Open

abbrev pub span_at : List Span → ℕ → Span
span_at spans item = slice_index_or spans item (record { start = 0; end = 0 })

abbrev pub uses_at : List (List ℕ) → ℕ → List ℕ
uses_at uses item = slice_index_or uses item []

abbrev pub set_mark : List Mark → ℕ → Mark → List Mark
set_mark marks item m = set marks item m

unfoldable pub push : ℕ → List ℕ → State → Done
push item uses s = done (record s { stack = s.stack ++ (item, uses) ∷ [] })

unfoldable pub enter : ℕ → State → Done
enter item s = push item (uses_at s.uses item) (record s { marks = set_mark s.marks item mark.Open })

abbrev pub used_by : Mark → ℕ → ℕ → State → Done
used_by mark.New item by s = enter item s
used_by (mark.Done place) item by s = done s
used_by mark.Open item by s = Err (fault_after reason.Cycle (span_at s.spans by) (span_at s.spans item))

-- an item that another one names
unfoldable pub used : ℕ → ℕ → State → Done
used item by s = used_by (mark_at s.marks item) item by s

unfoldable pub finish : ℕ → State → Done
finish item s = done (record s { marks = set_mark s.marks item (mark.Done (length s.order)); order = s.order ++ item ∷ [] })

unfoldable pub visit : ℕ → List ℕ → State → Done
visit item [] s = finish item s
visit item (u ∷ us) s = push item us s >>= (λ _. used u item)

abbrev pub without_last : State → State
without_last s = record s { stack = take (length s.stack - 1) s.stack }

abbrev pub last_of : List Visit → Visit
last_of vs = slice_index_or vs (length vs - 1) (0, [])

abbrev pub is_none : List Visit → Bool
is_none [] = true
is_none (v ∷ vs) = false

-- one step, and whether there was anything to do
unfoldable pub step : State → Outcome State Bool
step s =
    if is_none s.stack then Ok (false, s)
    else (visit (last_of s.stack).0 (last_of s.stack).1 (without_last s) >>= (λ _ t. Ok (true, t)))

abbrev pub turn : (State → Done) → Outcome State Bool → Done
turn go (Ok p) = if p.0 then go p.1 else done p.1
turn go (Err e) = Err e

unfoldable pub finish_all : ℕ → State → Done
finish_all zero s = done s
finish_all (suc turns) s = turn (finish_all turns) (step s)

abbrev pub root_by : Mark → ℕ → ℕ → State → Done
root_by mark.New turns item s = enter item s >>= (λ _. finish_all turns)
root_by _ turns item s = done s

unfoldable pub root : ℕ → ℕ → State → Done
root turns item s = root_by (mark_at s.marks item) turns item s

-- the items of a count, from an item on
unfoldable pub run_from : ℕ → ℕ → ℕ → State → Done
run_from turns zero item s = done s
run_from turns (suc count) item s = root turns item s >>= (λ _. run_from turns count (suc item))

abbrev pub rank_of : Mark → ℕ
rank_of (mark.Done place) = place
rank_of _ = 0

abbrev pub new_marks : List Span → List Mark
new_marks spans = map (λ at. mark.New) spans

abbrev pub start_of : List Span → List (List ℕ) → List Mark → State
start_of spans uses marks = record { spans = spans; uses = uses; marks = marks; stack = []; order = [] }

abbrev pub order_in : Done → Result (List ℕ × List ℕ) Fault
order_in (Ok p) = Ok (p.1.order, map rank_of p.1.marks)
order_in (Err e) = Err e

abbrev pub order_view : OrderOfCode → List ℕ × List ℕ
order_view o = (o.order.items, o.ranks.items)

-- the items, one after the other, each after those that it names, and the place of each item in that order
abbrev pub sorted : List Span → List (List ℕ) → ℕ → Result (List ℕ × List ℕ) Fault
sorted spans uses turns = order_in (run_from turns (length spans) 0 (start_of spans uses (new_marks spans)))
